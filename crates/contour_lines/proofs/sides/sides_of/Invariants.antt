use Rattle.std.proofs.Common.{◌+◌, List, false}
use Rattle.live_clauses.specs.declared.step.Step.{Step}
use Rattle.view_places.specs.Window.{Window, IsWindow}
use Rattle.contour_lines.specs.Signs.{AreRows, side_of}
use Rattle.contour_lines.specs.Tables.{known_of}
use Rattle.contour_lines.specs.Trees.{IsTold}
use Rattle.contour_lines.proofs.sides.sides_of.Given as goal

abbrev pub invariant-loop-y : goal.invariant-loop-y
invariant-loop-y l = (view : Window) (list : List Step) → IsWindow view → IsTold view list (known_of l.values)
    → AreRows (l.values.n.x + 1) (side_of view list) false l.y 0 l.sides.items

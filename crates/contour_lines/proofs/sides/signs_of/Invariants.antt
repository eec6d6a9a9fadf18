use Rattle.contour_lines.specs.Signs.{AreRows, signs_by}
use Rattle.contour_lines.proofs.sides.signs_of.Given as goal

abbrev pub invariant-loop-y : goal.invariant-loop-y
invariant-loop-y l = AreRows l.nx (signs_by l.nx l.sides) 0 l.y 0 l.signs.items

use Rattle.kuhn_cells.specs.Triangles.{point}
use Rattle.oct_descent.proofs.Corners.{IsSeenTo}
use Rattle.oct_descent.proofs.corner_values.seen.Given as goal

abbrev pub invariant-loop-c : goal.invariant-loop-c
invariant-loop-c l = IsSeenTo l.values (point l.x l.y l.z) l.c l.seen

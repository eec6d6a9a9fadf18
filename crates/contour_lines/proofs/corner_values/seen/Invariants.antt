use Rattle.kuhn_cells.specs.Triangles.{point}
use Rattle.contour_lines.specs.Tables.{known_of}
use Rattle.contour_lines.proofs.Corners.{IsSeenTo}
use Rattle.contour_lines.proofs.corner_values.seen.Given as goal

abbrev pub invariant-loop-c : goal.invariant-loop-c
invariant-loop-c l = IsSeenTo (known_of l.values) (point l.x l.y 0) l.c l.seen

use Rattle.std.proofs.Common.{◌≤◌}
use Rattle.arrayvec.specs.ArrayVec.{array_vec_len}
use Rattle.kuhn_cells.specs.Triangles.{point}
use Rattle.contour_lines.specs.Gaps.{AreGapsBelow}
use Rattle.contour_lines.specs.Tables.{known_of}
use Rattle.contour_lines.proofs.filling.find_gaps.Given as goal

abbrev pub invariant-loop-c : goal.invariant-loop-c
invariant-loop-c l = record {
  few : array_vec_len l.gaps ≤ l.c;
  gaps : AreGapsBelow l.c (known_of l.values) (point l.x l.y 0) l.gaps.items;
}

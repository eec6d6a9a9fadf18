use Rattle.std.proofs.Common.{◌≤◌}
use Rattle.std.specs.Prelude.{IfSome}
use Rattle.arrayvec.specs.ArrayVec.{array_vec_len}
use Rattle.kuhn_cells.specs.Triangles.{point}
use Rattle.oct_descent.specs.Corners.{AreTogether}
use Rattle.oct_descent.specs.Gaps.{AreGapsBelow}
use Rattle.oct_descent.specs.Tables.{IsSame}
use Rattle.oct_descent.proofs.filling.find_gaps.Given as goal

abbrev pub invariant-loop-c : goal.invariant-loop-c
invariant-loop-c l = record {
  same : IsSame l.fn.values l.values;
  together : IfSome l.first (AreTogether l.values (point l.x l.y l.z));
  few : array_vec_len l.gaps ≤ l.c;
  gaps : AreGapsBelow l.c l.values (point l.x l.y l.z) l.gaps.items;
}

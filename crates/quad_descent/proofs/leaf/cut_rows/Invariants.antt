use Rattle.std.proofs.Common.{◌≡◌}
use Rattle.quad_descent.specs.Scans.{row_digits}
use Rattle.quad_descent.proofs.Leaves.{rows_upto}
use Rattle.quad_descent.proofs.leaf.cut_rows.Given as goal

abbrev pub invariant-loop-r : goal.invariant-loop-r
invariant-loop-r l = l.rows ≡ rows_upto (row_digits l.bits l.width l.height) l.r

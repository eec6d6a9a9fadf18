-- The pixels above a row are counted.
use Rattle.std.proofs.Common.{◌≡◌, ◌*◌, ◌-◌, ◌==◌, ◌≤◌, length}
use Rattle.std.specs.Prelude.{Some, count_by}
use Rattle.quad_descent.specs.Rows.{rows_at}
use Rattle.modeller_cmd.proofs.forge.count_inside.Given as goal

abbrev pub invariant-loop-row : goal.invariant-loop-row
invariant-loop-row l = record {
  within : l.row ≤ l.fn.view.h;
  counted : l.inside ≡ count_by (λ pixel. pixel == 255) (rows_at (Some l.fn.picture) 0 (l.row * l.fn.view.w));
  few : l.inside ≤ l.row * l.fn.view.w;
  same : length l.buffer ≡ length l.fn.buffer;
}

abbrev pub decreases-loop-row : goal.decreases-loop-row
decreases-loop-row l = l.fn.view.h - l.row

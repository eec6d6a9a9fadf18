-- The rows above one are written.
use Rattle.std.proofs.Common.{◌≡◌, ◌-◌, ◌*◌, ◌≤◌, length}
use Rattle.modeller_io.specs.Count.{Stands}
use Rattle.modeller_io.specs.Held.{Gains}
use Rattle.quad_descent.specs.Rows.{rows_at}
use Rattle.modeller_cmd.proofs.image.write_bands.Given as goal

abbrev pub invariant-loop-row : goal.invariant-loop-row
invariant-loop-row g l = record {
  above : l.fn.first ≤ l.row;
  within : l.row ≤ l.fn.view.h;
  gained : Gains g.K.Sink.held l.fn.out l.out (rows_at (g.R.RowSource.image l.fn.image) l.fn.first ((l.row - l.fn.first) * l.fn.view.w));
  no_fault : Stands g.K.Sink.faults l.fn.out l.out;
  same : length l.buffer ≡ length l.fn.buffer;
}

abbrev pub decreases-loop-row : goal.decreases-loop-row
decreases-loop-row g l = l.fn.view.h - l.row

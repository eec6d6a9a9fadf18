use Rattle.std.proofs.Common.{◌≡◌, ◌-◌, ◌≤◌, length, take}
use Rattle.modeller_io.specs.Count.{Stands}
use Rattle.modeller_io.specs.Held.{Gains}
use Rattle.modeller_io.proofs.writing.write_all.Given as goal

abbrev pub invariant-loop-written : goal.invariant-loop-written
invariant-loop-written g l = record {
  within : l.written ≤ length l.bytes;
  gained : Gains g.K.Sink.held l.fn.sink l.sink (take l.written l.bytes);
  no_fault : Stands g.K.Sink.faults l.fn.sink l.sink;
  untouched : l.written ≡ 0 → l.sink ≡ l.fn.sink;
}

abbrev pub decreases-loop-written : goal.decreases-loop-written
decreases-loop-written g l = length l.bytes - l.written

use Rattle.std.proofs.Common.{◌-◌, ◌+◌, ◌≤◌, vec_len}
use Rattle.modeller_io.specs.Count.{RoseBy, Stands}
use Rattle.modeller_io.specs.Took.{Loses}
use Rattle.modeller_io.proofs.reading.read_all.Given as goal

abbrev pub invariant-loop-count : goal.invariant-loop-count
invariant-loop-count g l = record {
  within : vec_len l.bytes ≤ l.fn.limit;
  read : Loses g.S.Source.rest l.fn.source l.source l.bytes.items;
  took : RoseBy g.S.Source.taken l.fn.source l.source (vec_len l.bytes);
  no_fault : Stands g.S.Source.faults l.fn.source l.source;
}

abbrev pub decreases-loop-count : goal.decreases-loop-count
decreases-loop-count g l = l.fn.limit + 1 - vec_len l.bytes

-- What was written so far, and what comes after it, are the whole text.
use Rattle.std.proofs.Common.{◌≡◌, ◌++◌, List, ℕ, length}
use Rattle.modeller_io.specs.Count.{Stands}
use Rattle.modeller_io.specs.Held.{Gains}
use Rattle.modeller_cmd.proofs.send.write_pieces.Given as goal

abbrev pub invariant-loop-out : goal.invariant-loop-out
invariant-loop-out g l = record {
  front : List ℕ;
  gained : Gains g.K.Sink.held l.fn.out l.out front;
  whole : front ++ l.text.rest ≡ l.fn.text.piece ++ l.fn.text.rest;
  no_fault : Stands g.K.Sink.faults l.fn.out l.out;
}

abbrev pub decreases-loop-out : goal.decreases-loop-out
decreases-loop-out g l = length l.text.rest

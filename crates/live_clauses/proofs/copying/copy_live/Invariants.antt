use Rattle.std.proofs.Common.{◌-◌, ◌≤◌, length, map}
use Rattle.live_clauses.specs.Packed.{unpacked}
use Rattle.live_clauses.proofs.Numbering.{IsCopied}
use Rattle.live_clauses.proofs.copying.copy_live.Given as goal

abbrev pub invariant-loop-at : goal.invariant-loop-at
invariant-loop-at g l = record {
  within : l.at ≤ length l.steps;
  copied : IsCopied l.constants l.at (map (unpacked l.constants) l.steps) (g.C.Choices.list l.choices) l.numbers l.new l.count;
}

abbrev pub decreases-loop-at : goal.decreases-loop-at
decreases-loop-at g l = length l.steps - l.at

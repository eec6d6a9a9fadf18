use Rattle.std.proofs.Common.{◌≡◌, ◌<◌, ℕ, length}
use Rattle.choice_trace.specs.Hulls.{hull_in}
use Rattle.choice_trace.proofs.halves.first_lanes.Given as goal

abbrev pub invariant-loop-l : goal.invariant-loop-l
invariant-loop-l g l = record {
  len : length l.lanes ≡ g.row.L;
  lanes : (k : ℕ) → k < l.l → hull_in l.lanes k ≡ hull_in l.row k;
}

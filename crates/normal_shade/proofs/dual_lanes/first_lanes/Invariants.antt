use Rattle.std.proofs.Common.{◌≡◌, ◌<◌, ℕ, true}
use Rattle.live_clauses.specs.Choices.{has_bit}
use Rattle.normal_shade.proofs.dual_lanes.first_lanes.Given as goal

abbrev pub invariant-loop-lane : goal.invariant-loop-lane
invariant-loop-lane g l = record {
  done : (k : ℕ) → k < l.lane → has_bit l.lanes k ≡ true;
}

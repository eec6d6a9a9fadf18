use Rattle.std.proofs.Common.{◌≡◌, ◌<◌, ◌≤◌, ℕ, false, int_le}
use Rattle.choice_trace.specs.Lanes.{in_lane}
use Rattle.live_clauses.specs.Choices.{has_bit}
use Rattle.normal_shade.proofs.branches.lanes_at_most.Given as goal

abbrev pub invariant-loop-lane : goal.invariant-loop-lane
invariant-loop-lane l = record {
  done : (k : ℕ) → k < l.lane → has_bit l.lanes k ≡ int_le (in_lane k l.a) (in_lane k l.b);
  rest : (k : ℕ) → l.lane ≤ k → has_bit l.lanes k ≡ false;
}

use Rattle.std.proofs.Common.{◌≡◌, ◌≤◌, ◌*◌, cond}
use Rattle.std.specs.List.{range_with_len, sum_by}
use Rattle.choice_trace.specs.Lanes.{in_lane}
use Rattle.live_clauses.specs.Choices.{has_bit}
use Rattle.normal_shade.specs.DualWork.{derivative_cost}
use Rattle.normal_shade.proofs.dual_lanes.row_cost.Given as goal

abbrev pub invariant-loop-lane : goal.invariant-loop-lane
invariant-loop-lane g l = record {
  cost : l.count ≡ sum_by (λ k. cond (has_bit l.reached k) (derivative_cost l.op (in_lane k l.a) (in_lane k l.b) (in_lane k l.value)) 0) (range_with_len 0 l.lane);
  few : l.count ≤ 9 * l.lane;
}

use Rattle.std.proofs.Common.{◌≡◌, ◌<◌, ℕ, length}
use Rattle.fixed_ops.specs.Operations.{op_result}
use Rattle.choice_trace.specs.Lanes.{in_lane}
use Rattle.choice_trace.proofs.lanes.write_results.Given as goal

abbrev pub invariant-loop-lane : goal.invariant-loop-lane
invariant-loop-lane g l = record {
  len : length l.row ≡ 8;
  below : (k : ℕ) → k < l.lane → in_lane k l.row ≡ op_result l.op (in_lane k l.a) (in_lane k l.b);
}

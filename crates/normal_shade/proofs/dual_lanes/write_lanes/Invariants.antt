use Rattle.std.proofs.Common.{◌≡◌, ◌<◌, ℕ, length}
use Rattle.choice_trace.specs.Lanes.{in_lane}
use Rattle.normal_shade.specs.Duals.{dual_in, dual_of}
use Rattle.normal_shade.proofs.dual_lanes.write_lanes.Given as goal

abbrev pub invariant-loop-lane : goal.invariant-loop-lane
invariant-loop-lane g l = record {
  len : length l.row ≡ 8;
  below : (k : ℕ) → k < l.lane → dual_in k l.row ≡ dual_of l.op (in_lane k l.value) (in_lane k l.a) (in_lane k l.b) (dual_in k l.da) (dual_in k l.db);
}

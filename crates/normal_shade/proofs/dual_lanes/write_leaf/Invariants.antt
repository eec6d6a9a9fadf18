use Rattle.std.proofs.Common.{◌≡◌, ◌<◌, ℕ, pos, length}
use Rattle.choice_trace.specs.Lanes.{in_lane}
use Rattle.fixed_ops.specs.Slopes.{flat}
use Rattle.normal_shade.specs.Duals.{dual_in, dual_of}
use Rattle.normal_shade.proofs.dual_lanes.write_leaf.Given as goal

abbrev pub invariant-loop-lane : goal.invariant-loop-lane
invariant-loop-lane g l = record {
  len : length l.row ≡ 8;
  below : (k : ℕ) → k < l.lane → dual_in k l.row ≡ dual_of l.op (in_lane k l.value) (pos 0) (pos 0) flat flat;
}

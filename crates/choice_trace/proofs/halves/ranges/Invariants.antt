use Rattle.std.proofs.Common.{◌≡◌, ◌<◌, ℕ, length}
use Rattle.choice_trace.specs.Halves.{region_in}
use Rattle.choice_trace.specs.Hulls.{hull_in}
use Rattle.choice_trace.proofs.halves.ranges.Given as goal

abbrev pub invariant-loop-l : goal.invariant-loop-l
invariant-loop-l g l = record {
  x_len : length l.x ≡ 4;
  y_len : length l.y ≡ 4;
  z_len : length l.z ≡ 4;
  x : (k : ℕ) → k < l.l → hull_in l.x k ≡ (region_in l.regions k).x;
  y : (k : ℕ) → k < l.l → hull_in l.y k ≡ (region_in l.regions k).y;
  z : (k : ℕ) → k < l.l → hull_in l.z k ≡ (region_in l.regions k).z;
}

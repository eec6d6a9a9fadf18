use Rattle.std.proofs.Common.{◌≡◌, ◌<◌, ℕ, length}
use Rattle.choice_trace.specs.Lanes.{in_lane}
use Rattle.view_places.specs.Places.{sample_place}
use Rattle.view_places.specs.declared.lattice.Axis.TheVariants.{X, Y, Z}
use Rattle.view_places.specs.declared.lattice.Lattice.TheVariants.{Grid}
use Rattle.contour_lines.specs.Gaps.{nth}
use Rattle.contour_lines.proofs.gaps.gather.Given as goal

abbrev pub invariant-loop-lane : goal.invariant-loop-lane
invariant-loop-lane g l = record {
  wide : length l.x ≡ 8;
  high : length l.y ≡ 8;
  deep : length l.z ≡ 8;
  xs : (n : ℕ) → n < l.lane → in_lane n l.x ≡ sample_place l.places.view Grid X (nth l.gaps n).x;
  ys : (n : ℕ) → n < l.lane → in_lane n l.y ≡ sample_place l.places.view Grid Y (nth l.gaps n).y;
  zs : (n : ℕ) → n < l.lane → in_lane n l.z ≡ sample_place l.places.view Grid Z 0;
}

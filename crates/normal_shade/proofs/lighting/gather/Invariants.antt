use Rattle.std.proofs.Common.{◌≡◌, ◌<◌, ℕ, length}
use Rattle.choice_trace.specs.Lanes.{in_lane}
use Rattle.view_places.specs.Places.{sample_place}
use Rattle.view_places.specs.declared.lattice.Axis.TheVariants.{X, Y, Z}
use Rattle.view_places.specs.declared.lattice.Lattice.TheVariants.{Height}
use Rattle.normal_shade.specs.TopSamples.{nth}
use Rattle.normal_shade.proofs.lighting.gather.Given as goal

abbrev pub invariant-loop-lane : goal.invariant-loop-lane
invariant-loop-lane g l = record {
  wide : length l.x ≡ 8;
  high : length l.y ≡ 8;
  deep : length l.z ≡ 8;
  columns : (n : ℕ) → n < l.lane → in_lane n l.x ≡ sample_place l.places.view Height X (nth l.samples n).i;
  rows : (n : ℕ) → n < l.lane → in_lane n l.y ≡ sample_place l.places.view Height Y (nth l.samples n).j;
  layers : (n : ℕ) → n < l.lane → in_lane n l.z ≡ sample_place l.places.view Height Z (nth l.samples n).k;
}

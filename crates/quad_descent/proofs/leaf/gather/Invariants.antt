use Rattle.std.proofs.Common.{◌≡◌, ◌+◌, ◌<◌, ℕ, length}
use Rattle.choice_trace.specs.Lanes.{in_lane}
use Rattle.view_places.specs.Places.{sample_place}
use Rattle.view_places.specs.declared.lattice.Axis.TheVariants.{X, Y}
use Rattle.quad_descent.specs.Scans.{IsAtNext, column_of, row_of}
use Rattle.quad_descent.proofs.leaf.gather.Given as goal

abbrev pub invariant-loop-lane : goal.invariant-loop-lane
invariant-loop-lane g l = record {
  next : IsAtNext l.fn.b l.scan;
  told : l.scan.told ≡ l.fn.scan.told + l.lane;
  bits : l.scan.bits ≡ l.fn.scan.bits;
  wide : length l.x ≡ 8;
  high : length l.y ≡ 8;
  columns : (k : ℕ) → k < l.lane → in_lane k l.x ≡ sample_place l.places.view l.places.lattice X (column_of l.fn.b (l.fn.scan.told + k));
  rows : (k : ℕ) → k < l.lane → in_lane k l.y ≡ sample_place l.places.view l.places.lattice Y (row_of l.fn.b (l.fn.scan.told + k));
}

-- The least and the greatest place of the samples of a box.
use Rattle.std.specs.Prelude.{◌≡◌, ℕ, ◌-◌, ◌≤◌, ℤ}
use Rattle.std.specs.Int.{int_max, int_min}
use Rattle.interval_ops.specs.declared.region.Region.{Region}
use Rattle.interval_ops.specs.Spans.{Interval, Holds}
use Rattle.view_places.specs.declared.lattice.Axis.{Axis}
use Rattle.view_places.specs.declared.lattice.Axis.TheVariants.{X, Y, Z}
use Rattle.view_places.specs.declared.lattice.Lattice.{Lattice}
use Rattle.view_places.specs.declared.lattice.Lattice.TheVariants.{Raster, Height, Grid}
use Rattle.view_places.specs.Boxes.{Indices}
use Rattle.view_places.specs.Places.{sample_place}
use Rattle.view_places.specs.Window.{Window}

-- the box of all samples of a lattice; of a grid, the box of all its cells
abbrev pub root_box_of : Window → Lattice → Indices
root_box_of v Raster = record { x0 = 0; x1 = v.w; y0 = 0; y1 = v.h; z0 = 0; z1 = 1 }
root_box_of v Height = record { x0 = 0; x1 = v.w; y0 = 0; y1 = v.h; z0 = 0; z1 = v.d }
root_box_of v Grid = record { x0 = 0; x1 = v.nx; y0 = 0; y1 = v.ny; z0 = 0; z1 = v.nz }

-- a box lies in the root box
pub record IsInRoot (v : Window) (lattice : Lattice) (b : Indices) : Type 0 where
  pub x : b.x1 ≤ (root_box_of v lattice).x1
  pub y : b.y1 ≤ (root_box_of v lattice).y1
  pub z : b.z1 ≤ (root_box_of v lattice).z1

-- the last sample of a box that ends so: its cells' upper corners are samples of a box of a grid
abbrev pub last_of : Lattice → ℕ → ℕ
last_of Raster high = high - 1
last_of Height high = high - 1
last_of Grid high = high

-- The least and the greatest place along an axis. Places rise or fall along it, so they are at its ends.
abbrev pub range_along : Window → Lattice → Axis → ℕ → ℕ → Interval
range_along v lattice axis low high = record {
  lo = int_min (sample_place v lattice axis low) (sample_place v lattice axis (last_of lattice high));
  hi = int_max (sample_place v lattice axis low) (sample_place v lattice axis (last_of lattice high));
}

-- the ranges of a box
abbrev pub region_of : Window → Lattice → Indices → Region
region_of v lattice b = record {
  x = range_along v lattice X b.x0 b.x1;
  y = range_along v lattice Y b.y0 b.y1;
  z = range_along v lattice Z b.z0 b.z1;
}

-- a place among those of the samples from the first to the last
pub record IsPlaceAmong (v : Window) (lattice : Lattice) (axis : Axis)
    (first last : ℕ) (place : ℤ) : Type 0 where
  pub index : ℕ
  pub above : first ≤ index
  pub below : index ≤ last
  pub is : sample_place v lattice axis index ≡ place

-- the ends are the least and the greatest of these places
pub record IsRange (v : Window) (lattice : Lattice) (axis : Axis)
    (first last : ℕ) (s : Interval) : Type 0 where
  pub holds : (i : ℕ) → first ≤ i → i ≤ last → Holds s (sample_place v lattice axis i)
  pub least : IsPlaceAmong v lattice axis first last s.lo
  pub greatest : IsPlaceAmong v lattice axis first last s.hi

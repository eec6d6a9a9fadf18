-- Where samples lie.
use Rattle.std.specs.Prelude.{ℕ, ◌-◌, ℤ}
use Rattle.fixed_ops.specs.Points.{Point}
use Rattle.view_places.specs.declared.axis_samples.AxisSamples.{AxisSamples}
use Rattle.view_places.specs.declared.course.Course.{Course}
use Rattle.view_places.specs.declared.course.Course.TheVariants.{Rising, Falling, Level}
use Rattle.view_places.specs.declared.lattice.Axis.{Axis}
use Rattle.view_places.specs.declared.lattice.Axis.TheVariants.{X, Y, Z}
use Rattle.view_places.specs.declared.lattice.Lattice.{Lattice}
use Rattle.view_places.specs.declared.lattice.Lattice.TheVariants.{Raster, Height, Grid}
use Rattle.view_places.specs.Samples.{place_on}
use Rattle.view_places.specs.Window.{Window}

-- the lower and the upper end of an axis of a view
abbrev pub low_end : Window → Axis → ℤ
low_end v X = v.x0
low_end v Y = v.y0
low_end v Z = v.z0

abbrev pub high_end : Window → Axis → ℤ
high_end v X = v.x1
high_end v Y = v.y1
high_end v Z = v.z1

-- samples from an end of an axis to the other, so many steps in all
abbrev pub from_end_to_end : Window → Axis → ℕ → Course → AxisSamples
from_end_to_end v axis steps course =
    record { low = low_end v axis; high = high_end v axis; steps = steps; course = course }

-- The samples along an axis of a lattice: the rows of rasters and height maps lie from the top on down, a
-- raster lies at one height, and all else rises.
abbrev pub samples_along : Window → Lattice → Axis → AxisSamples
samples_along v Raster X = from_end_to_end v X (v.w - 1) Rising
samples_along v Raster Y = from_end_to_end v Y (v.h - 1) Falling
samples_along v Raster Z = record { low = v.z; high = v.z; steps = 0; course = Level }
samples_along v Height X = from_end_to_end v X (v.w - 1) Rising
samples_along v Height Y = from_end_to_end v Y (v.h - 1) Falling
samples_along v Height Z = from_end_to_end v Z (v.d - 1) Rising
samples_along v Grid X = from_end_to_end v X v.nx Rising
samples_along v Grid Y = from_end_to_end v Y v.ny Rising
samples_along v Grid Z = from_end_to_end v Z v.nz Rising

-- how many steps lie between the first and the last sample of an axis
abbrev pub steps_of : Window → Lattice → Axis → ℕ
steps_of v lattice axis = (samples_along v lattice axis).steps

-- the raw place of a sample
abbrev pub sample_place : Window → Lattice → Axis → ℕ → ℤ
sample_place v lattice axis i = place_on (samples_along v lattice axis) i

-- the point of a sample of a lattice
abbrev pub point_of : Window → Lattice → ℕ → ℕ → ℕ → Point
point_of v lattice i j k =
    record { x = sample_place v lattice X i; y = sample_place v lattice Y j; z = sample_place v lattice Z k }

-- the point of the pixel in column i, from the left on, and row j, from the top on
abbrev pub raster_point : Window → ℕ → ℕ → Point
raster_point v i j = point_of v Raster i j 0

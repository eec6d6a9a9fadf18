-- The places of all samples of a lattice over a view.
use Rattle.std.specs.Prelude.{◌+◌, ℤ, List, map}
use Rattle.std.specs.List.{range_with_len}
use Rattle.view_places.specs.Places.{sample_place, steps_of}
use Rattle.view_places.specs.Window.{Window}
use Rattle.view_places.specs.declared.lattice.Axis.{Axis}
use Rattle.view_places.specs.declared.lattice.Lattice.{Lattice}

-- a lattice over a view
pub record Sampling : Type 0 where
  pub view : Window
  pub lattice : Lattice

-- the raw places of the samples along an axis, from the first on
abbrev pub places_along : Window → Lattice → Axis → List ℤ
places_along v lattice axis =
    map (sample_place v lattice axis) (range_with_len 0 (steps_of v lattice axis + 1))

-- Tables of the places of a grid's points.
use Rattle.std.specs.Prelude.{◌≡◌, ℕ, ◌≤◌, ℤ, pos, List, slice_index_or}
use Rattle.fixed_ops.specs.Raw.{IsRaw}
use Rattle.view_places.specs.declared.lattice.Axis.{Axis}
use Rattle.view_places.specs.declared.lattice.Axis.TheVariants.{X, Y, Z}
use Rattle.view_places.specs.declared.lattice.Lattice.TheVariants.{Grid}
use Rattle.view_places.specs.Places.{sample_place, steps_of}
use Rattle.view_places.specs.Window.{Window}

-- a number is the raw place of a point of a grid along an axis
pub record IsPointPlace (w : Window) (axis : Axis) (i : ℕ) (place : ℤ) : Type 0 where
  pub is : place ≡ sample_place w Grid axis i
  pub raw : IsRaw place

-- a list has the raw places of a grid's points along an axis, of which there are at most 513
pub record IsTable (w : Window) (axis : Axis) (table : List ℤ) : Type 0 where
  pub few : steps_of w Grid axis ≤ 512
  pub holds : (i : ℕ) → i ≤ steps_of w Grid axis → IsPointPlace w axis i (slice_index_or table i (pos 0))

-- and so it is along each axis
pub record AreTables (w : Window) (x y z : List ℤ) : Type 0 where
  pub along_x : IsTable w X x
  pub along_y : IsTable w Y y
  pub along_z : IsTable w Z z

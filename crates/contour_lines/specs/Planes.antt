-- The plane grid of a list over a view.
use Rattle.std.specs.Prelude.{ℕ, ◌==◌, ℤ, pos, Bool, ◌||◌, List, if◌then◌else◌}
use Rattle.std.specs.Int.{int_max}
use Rattle.fixed_ops.specs.Points.{Point}
use Rattle.kuhn_cells.specs.declared.grid_size.GridSize.{GridSize}
use Rattle.live_clauses.specs.Steps.{tape_value}
use Rattle.live_clauses.specs.declared.step.Step.{Step}
use Rattle.view_places.specs.Places.{sample_place}
use Rattle.view_places.specs.Window.{Window, size_of}
use Rattle.view_places.specs.declared.lattice.Axis.TheVariants.{X, Y}
use Rattle.view_places.specs.declared.lattice.Lattice.TheVariants.{Grid}

-- The view laid flat: both ends of z at its height, and one cell between them. What its grid has at the lower
-- end of z is the plane grid.
abbrev pub laid_flat : Window → Window
laid_flat v = record v { z0 = v.z; z1 = v.z; nz = 1 }

-- the point of the plane grid with these indices along x and y
abbrev pub plane_point : Window → ℕ → ℕ → Point
plane_point v i j = record { x = sample_place v Grid X i; y = sample_place v Grid Y j; z = v.z }

-- a point lies on the border of a plane grid
abbrev pub is_on_border : GridSize → ℕ → ℕ → Bool
is_on_border n i j = (i == 0 || i == n.x) || (j == 0 || j == n.y)

-- a value as it counts there: on the border no point is inside
abbrev pub within_border : GridSize → ℕ → ℕ → ℤ → ℤ
within_border n i j value = if is_on_border n i j then int_max value (pos 0) else value

-- the value of a list at a point of the plane grid over a view
abbrev pub plane_value : Window → List Step → ℕ → ℕ → ℤ
plane_value view list i j = within_border (size_of view) i j (tape_value (plane_point view i j) list)

-- The grid of a list over a view.
use Rattle.std.specs.Prelude.{ℤ, List}
use Rattle.kuhn_cells.specs.Grids.{Grid, bordered, grid_over}
use Rattle.kuhn_cells.specs.Triangles.{GridPoint}
use Rattle.live_clauses.specs.Steps.{tape_value}
use Rattle.live_clauses.specs.declared.step.Step.{Step}
use Rattle.view_places.specs.Places.{point_of}
use Rattle.view_places.specs.Window.{Window, size_of}
use Rattle.view_places.specs.declared.lattice.Lattice.TheVariants as lattices

-- the value of a list at a point of the grid over a view
abbrev pub value_on : Window → List Step → GridPoint → ℤ
value_on view list p = tape_value (point_of view lattices.Grid p.x p.y p.z) list

-- the grid value of a list at a point
abbrev pub list_grid_value : Window → List Step → GridPoint → ℤ
list_grid_value view list p = bordered (size_of view) p (value_on view list p)

-- the grid of a list over a view: the grid value of each point, by z, then by y, then by x
unfoldable pub list_grid : Window → List Step → Grid
list_grid view list = grid_over (size_of view) (list_grid_value view list)

-- Lists of the mixed cells of a grid.
use Rattle.std.specs.Prelude.{◌≡◌}
use Rattle.kuhn_cells.specs.declared.cell_list.CellList.{CellList}
use Rattle.kuhn_cells.specs.declared.grid_size.GridSize.{GridSize}
use Rattle.kuhn_cells.specs.Cells.{IsBordered, mixed_cells}
use Rattle.kuhn_cells.specs.Grids.{Grid}

-- how many cells along each axis the grid of a list has
abbrev pub listed_size : CellList → GridSize
listed_size list = record { x = list.nx; y = list.ny; z = list.nz }

-- a list has the mixed cells of a grid of so many cells along each axis, whose outermost layer is outside
pub record ListsCells (n : GridSize) (list : CellList) (g : Grid) : Type 0 where
  pub x : g.x ≡ n.x
  pub y : g.y ≡ n.y
  pub z : g.z ≡ n.z
  pub border : IsBordered g
  pub count : listed_size list ≡ n
  pub cells : list.cells.items ≡ mixed_cells g

-- How the cells of a plane grid are looked into.
use Rattle.std.specs.Prelude.{◌+◌, ◌==◌, ℤ, Bool, ◌||◌, List}
use Rattle.box_chains.specs.Chains.{Visit}
use Rattle.box_chains.specs.Sums.{Sample}
use Rattle.kuhn_cells.specs.Triangles.{GridPoint}
use Rattle.kuhn_cells.specs.declared.grid_size.GridSize.{GridSize}
use Rattle.live_clauses.specs.declared.step.Step.{Step}
use Rattle.oct_descent.specs.Kinds.{GridKind, descent_of, root_of, value_in}
use Rattle.oct_descent.specs.Ways.{CellDescent}
use Rattle.view_places.specs.Boxes.{Indices}
use Rattle.view_places.specs.Window.{Window}
use Rattle.contour_lines.specs.Planes.{is_on_border}

-- the square of one cell, which covers its four corners
abbrev pub cell_square : Sample → Indices
cell_square s = record { x0 = s.i; x1 = s.i + 1; y0 = s.j; y1 = s.j + 1; z0 = s.k; z1 = s.k }

-- a box of cells covers a point of the border
abbrev pub meets_sides : GridSize → Indices → Bool
meets_sides n b = (b.x0 == 0 || b.x1 == n.x) || (b.y0 == 0 || b.y1 == n.y)

-- the box of all points of a plane grid
abbrev pub points_of_plane : GridSize → Indices
points_of_plane n = record { x0 = 0; x1 = n.x + 1; y0 = 0; y1 = n.y + 1; z0 = 0; z1 = 1 }

-- plane grids, as a kind of grids: a cell has four corners, and the border is that of x and y alone
abbrev pub plane : GridKind
plane = record {
  meets = meets_sides;
  is_border = λ n p. is_on_border n p.x p.y;
  cell = cell_square;
  points = points_of_plane;
}

-- How the cells of the plane grid over a view that lies flat are looked into: a box is halved until it is one
-- cell, and stays open at the border alone where it is decided inside.
abbrev pub planar : Window → CellDescent
planar view = descent_of plane view

-- the box of all cells, with the whole list
abbrev pub plane_root : Window → List Step → Visit
plane_root view list = root_of plane view list

-- the value of a list at a point of the plane grid over a view that lies flat
abbrev pub flat_value : Window → List Step → GridPoint → ℤ
flat_value view list = value_in plane view list

-- the points of a box at its lower end along z
abbrev pub floor_of : Indices → Indices
floor_of b = record b { z1 = b.z0 }

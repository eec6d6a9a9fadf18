-- The mixed cells of a grid, and what the mesh has of each of them.
use Rattle.std.specs.Prelude.{◌≡◌, ℕ, ◌+◌, ◌*◌, ◌<◌, ◌≤◌, pos, Bool, true, false, not, ◌&&◌, List, [], ◌∷◌, map, filter, flat_map, get_or, length, Contains}
use Rattle.std.specs.List.{list_any, range_with_len}
use Rattle.fixed_ops.specs.Raw.{is_inside}
use Rattle.kuhn_cells.specs.declared.cell_list.CellValues.{CellValues}
use Rattle.kuhn_cells.specs.declared.edge_key.EdgeKey.{EdgeKey}
use Rattle.kuhn_cells.specs.declared.triple.Triple.{Triple}
use Rattle.kuhn_cells.specs.Arrangement.{differ}
use Rattle.kuhn_cells.specs.Grids.{Grid, grid_size, is_border, is_inside_at, is_point, lower, over_block, value_at}
use Rattle.kuhn_cells.specs.Triangles.{GridPoint, edge_from, further, point, triangles_in}

-- where a cell lies, by its lowest corner
abbrev pub lowest_corner : CellValues → GridPoint
lowest_corner c = point c.x c.y c.z

-- a corner of a cell is inside
abbrev pub has_inside : CellValues → ℕ → Bool
has_inside c k = is_inside (get_or c.values k (pos 0))

-- the cell at a place, with the values of its corners
abbrev pub cell_at : Grid → GridPoint → CellValues
cell_at g p = record {
  x = p.x;
  y = p.y;
  z = p.z;
  values = map (λ c. value_at g (further p c)) (range_with_len 0 8);
}

-- some corner of a cell is inside, and some corner is outside
abbrev pub is_mixed_cell : CellValues → Bool
is_mixed_cell c = list_any is_inside c.values && list_any (λ v. not (is_inside v)) c.values

-- the mixed cells of a grid with their values, by z, then by y, then by x
unfoldable pub mixed_cells : Grid → List CellValues
mixed_cells g = filter is_mixed_cell (over_block g.x g.y g.z (λ p. cell_at g p ∷ []))

-- a point lies in the outermost layer of a grid
abbrev pub is_outermost : Grid → GridPoint → Bool
is_outermost g p = is_border (grid_size g) p

-- a grid has a value for each of its points, and every point of its outermost layer is outside
pub record IsBordered (g : Grid) : Type 0 where
  pub whole : length g.values ≡ (g.x + 1) * ((g.y + 1) * (g.z + 1))
  pub outside : (p : GridPoint) → is_point g p ≡ true → is_outermost g p ≡ true
      → is_inside_at g p ≡ false

-- the directions from the lowest corner of a cell to those that are on the other side
unfoldable pub directions_of : CellValues → List ℕ
directions_of c = filter (λ d. differ (has_inside c 0) (has_inside c d)) (range_with_len 1 7)

-- the edges from the lowest corner of a cell with exactly one inside end
abbrev pub edges_of : CellValues → List EdgeKey
edges_of c = map (edge_from (lowest_corner c)) (directions_of c)

-- the triangles of a cell
unfoldable pub triangles_of_cell : CellValues → List Triple
triangles_of_cell c =
    flat_map (λ tetra. triangles_in (lowest_corner c) tetra (has_inside c)) (range_with_len 0 6)

-- a mixed cell of a grid
pub record IsCellOf (g : Grid) (c : CellValues) : Type 0 where
  pub x : c.x < g.x
  pub y : c.y < g.y
  pub z : c.z < g.z
  pub «is» : c ≡ cell_at g (lowest_corner c)
  pub mixed : is_mixed_cell c ≡ true

-- A list has the cell at the lower point of an edge, and there the edge has exactly one inside end. The lower
-- point lies no lower than a given cell along z, and no more than one step higher.
pub record HasCell (cells : List CellValues) (from : CellValues) (e : EdgeKey) : Type 0 where
  pub cell : CellValues
  pub listed : Contains cells cell
  pub place : lowest_corner cell ≡ lower e
  pub direction : Contains (directions_of cell) e.dir
  pub above : from.z ≤ e.z
  pub near : e.z ≤ from.z + 1

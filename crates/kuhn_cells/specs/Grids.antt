-- Grids of values, their edges, and the vertices of a mesh.
use Rattle.std.specs.Prelude.{ℕ, ◌+◌, ◌*◌, ◌==◌, ℤ, pos, Bool, ◌&&◌, ◌||◌, nat_le, List, [], ◌∷◌, map, filter, flat_map, get_or, if◌then◌else◌}
use Rattle.std.specs.Int.{int_max}
use Rattle.std.specs.List.{range_with_len}
use Rattle.fixed_ops.specs.Raw.{is_inside}
use Rattle.kuhn_cells.specs.declared.edge_key.EdgeKey.{EdgeKey}
use Rattle.kuhn_cells.specs.declared.grid_size.GridSize.{GridSize}
use Rattle.kuhn_cells.specs.Arrangement.{differ}
use Rattle.kuhn_cells.specs.Triangles.{GridPoint, point, further, edge_from}

-- how many cells a grid has along each axis, and the values of its points, by z, then by y, then by x
pub record Grid : Type 0 where
  pub x : ℕ
  pub y : ℕ
  pub z : ℕ
  pub values : List ℤ

-- how many cells a grid has along each axis
abbrev pub grid_size : Grid → GridSize
grid_size g = record { x = g.x; y = g.y; z = g.z }

-- the points along each axis are one more than the cells
abbrev pub is_point : Grid → GridPoint → Bool
is_point g p = nat_le p.x g.x && (nat_le p.y g.y && nat_le p.z g.z)

abbrev pub value_at : Grid → GridPoint → ℤ
value_at g p = get_or g.values ((p.z * (g.y + 1) + p.y) * (g.x + 1) + p.x) (pos 0)

-- a point is inside where its value is less than 0
abbrev pub is_inside_at : Grid → GridPoint → Bool
is_inside_at g p = is_inside (value_at g p)

-- something at each place of a block of so many places along each axis, by z, then by y, then by x
abbrev pub over_block : {A : Type 0} → ℕ → ℕ → ℕ → (GridPoint → List A) → List A
over_block nx ny nz at =
    flat_map (λ z. flat_map (λ y. flat_map (λ x. at (point x y z)) (range_with_len 0 nx))
    (range_with_len 0 ny)) (range_with_len 0 nz)

-- a point lies in the outermost layer of a grid
abbrev pub is_border : GridSize → GridPoint → Bool
is_border n p =
    (p.x == 0 || p.x == n.x) || ((p.y == 0 || p.y == n.y) || (p.z == 0 || p.z == n.z))

-- a value as it counts at a point: in the outermost layer no point is inside
abbrev pub bordered : GridSize → GridPoint → ℤ → ℤ
bordered n p value = if is_border n p then int_max value (pos 0) else value

-- the grid whose points have some values
abbrev pub grid_over : GridSize → (GridPoint → ℤ) → Grid
grid_over n value = record {
  x = n.x;
  y = n.y;
  z = n.z;
  values = over_block (n.x + 1) (n.y + 1) (n.z + 1) (λ p. value p ∷ []);
}

-- the ends of an edge
abbrev pub lower : EdgeKey → GridPoint
lower e = point e.x e.y e.z

abbrev pub upper : EdgeKey → GridPoint
upper e = further (lower e) e.dir

-- the edges of a grid, by z, y and x of their lower points and then by direction: both ends are
-- points of the grid
abbrev pub edges : Grid → List EdgeKey
edges g =
    filter (λ e. is_point g (upper e))
    (over_block (g.x + 1) (g.y + 1) (g.z + 1) (λ p. map (edge_from p) (range_with_len 1 7)))

-- exactly one end of an edge is inside
abbrev pub is_mixed : (GridPoint → Bool) → EdgeKey → Bool
is_mixed inside e = differ (inside (lower e)) (inside (upper e))

-- the vertices of the mesh: the edges with exactly one inside end
unfoldable pub vertices : Grid → List EdgeKey
vertices g = filter (is_mixed (is_inside_at g)) (edges g)

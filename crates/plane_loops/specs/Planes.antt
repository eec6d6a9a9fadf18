-- Grids of values in a plane, their edges, and the vertices of a contour.
use Rattle.std.specs.Prelude.{◌≡◌, ℕ, ◌+◌, ◌*◌, ◌==◌, ℤ, pos, Bool, true, false, ◌&&◌, ◌||◌, nat_le, List, [], ◌∷◌, map, filter, flat_map, get_or, length}
use Rattle.std.specs.List.{range_with_len}
use Rattle.fixed_ops.specs.Raw.{is_inside}
use Rattle.kuhn_cells.specs.Arrangement.{differ}
use Rattle.kuhn_cells.specs.Corners.{along_x, along_y}
use Rattle.mesh_laws.specs.Places.{way_up}
use Rattle.plane_loops.specs.declared.plane_vertex.PlaneVertex.{PlaneVertex}

-- a point of a plane grid, by its index along each axis
pub record PlanePoint : Type 0 where
  pub x : ℕ
  pub y : ℕ

abbrev pub point : ℕ → ℕ → PlanePoint
point x y = record { x = x; y = y }

-- the point that lies one step further along each axis of a mask: 1 for a step along x, 2 for one along y
abbrev pub further : PlanePoint → ℕ → PlanePoint
further p mask = point (p.x + along_x mask) (p.y + along_y mask)

-- an edge: its lower point, and the direction from there to the upper one, a mask from 1 to 3
pub record PlaneEdge : Type 0 where
  pub x : ℕ
  pub y : ℕ
  pub dir : ℕ

abbrev pub edge_from : PlanePoint → ℕ → PlaneEdge
edge_from p dir = record { x = p.x; y = p.y; dir = dir }

-- the ends of an edge
abbrev pub lower : PlaneEdge → PlanePoint
lower e = point e.x e.y

abbrev pub upper : PlaneEdge → PlanePoint
upper e = further (lower e) e.dir

-- something at each place of a square of so many places along each axis, by y, then by x
abbrev pub over_square : {A : Type 0} → ℕ → (PlanePoint → List A) → List A
over_square n at =
    flat_map (λ y. flat_map (λ x. at (point x y)) (range_with_len 0 n)) (range_with_len 0 n)

-- how many cells a grid has along each axis, and the values of its points, by y, then by x
pub record PlaneGrid : Type 0 where
  pub n : ℕ
  pub values : List ℤ

-- the points along each axis are one more than the cells
abbrev pub is_point : PlaneGrid → PlanePoint → Bool
is_point g p = nat_le p.x g.n && nat_le p.y g.n

abbrev pub value_at : PlaneGrid → PlanePoint → ℤ
value_at g p = get_or g.values (p.y * (g.n + 1) + p.x) (pos 0)

-- a point is inside where its value is less than 0
abbrev pub is_inside_at : PlaneGrid → PlanePoint → Bool
is_inside_at g p = is_inside (value_at g p)

-- a point lies on the border of a grid
abbrev pub is_border : ℕ → PlanePoint → Bool
is_border n p = (p.x == 0 || p.x == n) || (p.y == 0 || p.y == n)

-- a grid has a value for each of its points, and every point of its border is outside
pub record IsBordered (g : PlaneGrid) : Type 0 where
  pub whole : length g.values ≡ (g.n + 1) * (g.n + 1)
  pub outside : (p : PlanePoint) → is_point g p ≡ true → is_border g.n p ≡ true
      → is_inside_at g p ≡ false

-- the directions of edges
abbrev pub directions : List ℕ
directions = 1 ∷ 2 ∷ 3 ∷ []

-- the edges of a grid, by y and x of their lower points and then by direction: both ends are points
-- of the grid
abbrev pub edges : PlaneGrid → List PlaneEdge
edges g =
    filter (λ e. is_point g (upper e))
    (over_square (g.n + 1) (λ p. map (edge_from p) directions))

-- exactly one end of an edge is inside
abbrev pub is_mixed : (PlanePoint → Bool) → PlaneEdge → Bool
is_mixed inside e = differ (inside (lower e)) (inside (upper e))

-- the edges that hold a vertex: those with exactly one inside end
unfoldable pub mixed_edges : PlaneGrid → List PlaneEdge
mixed_edges g = filter (is_mixed (is_inside_at g)) (edges g)

-- how far from the lower point of an edge its vertex lies, in parts of 65536 of the edge
abbrev pub share : PlaneGrid → PlaneEdge → ℕ
share g e = way_up (value_at g (lower e)) (value_at g (upper e))

-- the vertex on an edge
abbrev pub vertex_on : PlaneGrid → PlaneEdge → PlaneVertex
vertex_on g e = record { x = e.x; y = e.y; dir = e.dir; t = share g e }

-- the vertices of the contour
abbrev pub vertices : PlaneGrid → List PlaneVertex
vertices g = map (vertex_on g) (mixed_edges g)

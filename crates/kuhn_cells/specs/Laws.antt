-- What always holds of the arrangement of a tetrahedron and of its triangles.
use Rattle.std.specs.Prelude.{◌≡◌, ℕ, ◌*◌, ◌<◌, ◌≤◌, pos, negsuc, Bool, IsTrue, All, AllPairs, Contains, ◌↔◌, ◌⊎◌, [], ◌∷◌, flat_map, get_or, length, if◌then◌else◌}
use Rattle.std.specs.declared.cmp.Ordering.{Ordering}
use Rattle.std.specs.declared.cmp.Ordering.TheVariants.{Equal, Greater, Less}
use Rattle.kuhn_cells.specs.declared.cell_list.CellValues.{CellValues}
use Rattle.kuhn_cells.specs.declared.edge_key.EdgeKey.{EdgeKey}
use Rattle.kuhn_cells.specs.declared.triple.Triple.{Triple}
use Rattle.kuhn_cells.specs.Arrangement.{arrangement}
use Rattle.kuhn_cells.specs.Cells.{HasCell, IsBordered, IsCellOf, edges_of, mixed_cells, triangles_of_cell}
use Rattle.kuhn_cells.specs.Corners.{corner, corner_determinant, is_negative}
use Rattle.kuhn_cells.specs.Faces.{all_triangles, cell_triangles, number_among}
use Rattle.kuhn_cells.specs.Grids.{Grid, is_inside_at, is_mixed, is_point, upper, vertices}
use Rattle.kuhn_cells.specs.Triangles.{GridPoint}

-- the sign of a tetrahedron, which is that of its order of the axes, is that of the determinant of
-- the ways from v0 to v1, v2 and v3
abbrev pub SignsAreDeterminants : Type 0
SignsAreDeterminants =
    (tetra : ℕ) → tetra < 6 → corner_determinant (corner tetra 0) (corner tetra 1) (corner tetra 2)
    (corner tetra 3) ≡ (if is_negative tetra then negsuc 0 else pos 1)

-- however the corners of a tetrahedron lie, the determinant of the ways from a to b, c and d is
-- positive: it is 1
abbrev pub ArrangementsArePositive : Type 0
ArrangementsArePositive =
    (tetra : ℕ) (v0 v1 v2 v3 : Bool) → tetra < 6 → let corners =
    arrangement tetra (v0 ∷ v1 ∷ v2 ∷ v3 ∷ []) in
    corner_determinant (get_or corners 0 0) (get_or corners 1 0) (get_or corners 2 0)
    (get_or corners 3 0) ≡ pos 1

-- a fact of the three edges of a triangle
pub record OfEdges (P : EdgeKey → Type 0) (t : Triple) : Type 0 where
  pub a : P t.a
  pub b : P t.b
  pub c : P t.c

-- a step along one axis at least
pub record IsDirection (dir : ℕ) : Type 0 where
  pub some : 1 ≤ dir
  pub within : dir ≤ 7

-- the edges of each triangle have a direction
abbrev pub EdgesHaveDirections : Type 0
EdgesHaveDirections =
    (inside : GridPoint → Bool) (cell : GridPoint) → All (OfEdges (λ e. IsDirection e.dir))
    (cell_triangles inside cell)

-- each edge of each triangle has exactly one inside end
abbrev pub EdgesAreMixed : Type 0
EdgesAreMixed =
    (inside : GridPoint → Bool) (cell : GridPoint) → All (OfEdges (λ e. IsTrue (is_mixed inside e)))
    (cell_triangles inside cell)

-- an edge of a grid with exactly one inside end
pub record IsVertex (g : Grid) (e : EdgeKey) : Type 0 where
  pub direction : IsDirection e.dir
  pub within : IsTrue (is_point g (upper e))
  pub mixed : IsTrue (is_mixed (is_inside_at g) e)

-- the vertices are all edges with exactly one inside end, and nothing else
abbrev pub VerticesAreMixedEdges : Type 0
VerticesAreMixedEdges = (g : Grid) (e : EdgeKey) → Contains (vertices g) e ↔ IsVertex g e

-- keys are ordered by z, then by y, then by x of the lower point, and then by direction
abbrev pub IsBefore : EdgeKey → EdgeKey → Type 0
IsBefore e f = (e.z < f.z) ⊎ ((e.z ≡ f.z) × ((e.y < f.y) ⊎
    ((e.y ≡ f.y) × ((e.x < f.x) ⊎ ((e.x ≡ f.x) × (e.dir < f.dir))))))

-- a comparison of keys tells that order: which one is before the other, and otherwise they are equal
abbrev pub ComparesKeys : (EdgeKey → EdgeKey → Ordering) → Type 0
ComparesKeys compare =
    (e f : EdgeKey) → ((compare e f ≡ Less) ↔ IsBefore e f) × (((compare e f ≡ Greater) ↔ IsBefore f e)
    × ((compare e f ≡ Equal) ↔ (e ≡ f)))

-- the vertices stand in the order of their keys, none twice
abbrev pub VerticesRise : Type 0
VerticesRise = (g : Grid) → AllPairs IsBefore (vertices g)

-- each edge of each triangle is a vertex of the grid
abbrev pub TrianglesHaveVertices : Type 0
TrianglesHaveVertices = (g : Grid) → All (OfEdges (IsVertex g)) (all_triangles g)

-- the number of a vertex is the place at which it stands
abbrev pub NumbersArePlaces : Type 0
NumbersArePlaces =
    (g : Grid) (e d : EdgeKey) → IsVertex g e → let number =
    number_among (vertices g) e in (number < length (vertices g))
    × (get_or (vertices g) number d ≡ e)

-- ---- the mixed cells suffice

-- the mixed cells of a grid lie within it, and have its values
abbrev pub CellsAreOfTheGrid : Type 0
CellsAreOfTheGrid = (g : Grid) → All (IsCellOf g) (mixed_cells g)

-- cells are ordered by z, then by y, then by x
abbrev pub IsCellBefore : CellValues → CellValues → Type 0
IsCellBefore c d = (c.z < d.z) ⊎ ((c.z ≡ d.z) × ((c.y < d.y) ⊎ ((c.y ≡ d.y) × (c.x < d.x))))

-- the mixed cells stand in that order, none twice
abbrev pub CellsRise : Type 0
CellsRise = (g : Grid) → AllPairs IsCellBefore (mixed_cells g)

-- there are no more of them than cells
abbrev pub CellsAreFew : Type 0
CellsAreFew = (g : Grid) → length (mixed_cells g) ≤ g.x * (g.y * g.z)

-- the vertices are the edges from the lowest corners of the mixed cells with exactly one inside end
abbrev pub CellsHaveVertices : Type 0
CellsHaveVertices = (g : Grid) → IsBordered g → vertices g ≡ flat_map edges_of (mixed_cells g)

-- the triangles are those of the mixed cells
abbrev pub CellsHaveTriangles : Type 0
CellsHaveTriangles = (g : Grid) → all_triangles g ≡ flat_map triangles_of_cell (mixed_cells g)

-- each edge of each triangle of a mixed cell is one from the lowest corner of a mixed cell
abbrev pub EdgesHaveCells : Type 0
EdgesHaveCells = (g : Grid) → IsBordered g → All (λ c. All (OfEdges (HasCell (mixed_cells g) c))
    (triangles_of_cell c)) (mixed_cells g)

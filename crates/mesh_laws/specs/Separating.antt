-- Meshes that separate the inside points of a grid from the outside ones.
use Rattle.std.specs.Prelude.{◌≡◌, ℕ, ◌%◌, pos, ◌<ℤ◌, List, [], ◌∷◌, All, Contains, count_by, get_or, ◌↔◌, ◌⊎◌}
use Rattle.std.specs.List.{list_any}
use Rattle.kuhn_cells.specs.declared.edge_key.EdgeKey.{EdgeKey}
use Rattle.kuhn_cells.specs.Faces.{Face, same_edge}
use Rattle.kuhn_cells.specs.Grids.{Grid, edges, is_inside_at, lower, upper}
use Rattle.kuhn_cells.specs.Triangles.{GridPoint}
use Rattle.kuhn_cells.specs.Vectors.{determinant_at}
use Rattle.mesh_laws.specs.Places.{inner_end, lattice_place, point_place}

-- exactly one of two points of a grid is inside
abbrev pub IsParted : Grid → GridPoint → GridPoint → Type 0
IsParted g p q = is_inside_at g p ≡ is_inside_at g q → ⊥

-- The inside end of an edge lies behind the triangle of three vertices, which runs counterclockwise
-- seen from the other side.
abbrev pub IsBehind : Grid → EdgeKey → EdgeKey → EdgeKey → EdgeKey → Type 0
IsBehind g a b c e =
    determinant_at (lattice_place g a) (lattice_place g b) (lattice_place g c)
    (point_place (inner_end g e))
    <ℤ pos 0

-- the inside end of each of the three edges that hold the vertices of a triangle lies behind it
pub record HasInsideBehind (g : Grid) (a b c : EdgeKey) : Type 0 where
  pub at_a : IsBehind g a b c a
  pub at_b : IsBehind g a b c b
  pub at_c : IsBehind g a b c c

-- a face has the inside ends of the edges of its three vertices behind it, whatever stood for a
-- number without a vertex
abbrev pub FacesOut : Grid → List EdgeKey → Face → Type 0
FacesOut g vertices f =
    (d : EdgeKey) → HasInsideBehind g (get_or vertices f.a d) (get_or vertices f.b d) (get_or vertices f.c d)

-- a path along edges of a grid, each taken from one end to the other
abbrev pub IsPath : Grid → GridPoint → List EdgeKey → GridPoint → Type 0
IsPath g p [] q = p ≡ q
IsPath g p (e ∷ es) q =
    Contains (edges g) e
    × (((p ≡ lower e) × IsPath g (upper e) es q) ⊎ ((p ≡ upper e) × IsPath g (lower e) es q))

-- how many vertices a path passes
abbrev pub passed : List EdgeKey → List EdgeKey → ℕ
passed vertices path = count_by (λ e. list_any (same_edge e) vertices) path

-- A mesh separates the inside points of a grid from the outside ones. An edge of the grid holds a
-- vertex exactly where one of its ends is inside and the other is not. The inside ends at a face
-- lie behind it. So a path along edges of the grid passes an odd number of vertices exactly where
-- one of its ends is inside and the other is not.
pub record IsSeparating (g : Grid) (vertices : List EdgeKey) (faces : List Face) : Type 0 where
  pub crossed : (e : EdgeKey) → Contains (edges g) e
      → Contains vertices e ↔ IsParted g (lower e) (upper e)
  pub facing : All (FacesOut g vertices) faces
  pub paths : (p q : GridPoint) (path : List EdgeKey) → IsPath g p path q
      → (passed vertices path % 2 ≡ 1) ↔ IsParted g p q

-- The triangles of a cell by those of the cell at the origin.
use Rattle.std.specs.Prelude.{◌≡◌, ℕ, ◌+◌, ◌<◌, List, All, flat_map, get_or, length, map}
use Rattle.std.specs.List.{range_with_len}
use Rattle.kuhn_cells.specs.declared.edge_key.EdgeKey.{EdgeKey}
use Rattle.kuhn_cells.specs.declared.triple.Triple.{Triple}
use Rattle.kuhn_cells.specs.Triangles.{triangles_of}
use Rattle.tetra_mesh.specs.Edges.{HasTriangles}
use Rattle.tetra_mesh.specs.Ranks.{AreRanks}
use Rattle.tetra_mesh.specs.declared.shape.Shape.{Shape}
use Rattle.tetra_mesh.specs.declared.shapes.Shapes.{Shapes as Kept}
use Rattle.tetra_mesh.specs.declared.sided_cell.SidedCell.{SidedCell}

-- the triangles of the first tetrahedra of the cell at the origin with these signs
abbrev pub shape_front : ℕ → ℕ → List Triple
shape_front signs tetra = flat_map (λ t. triangles_of 0 0 0 t signs) (range_with_len 0 tetra)

-- all its triangles
unfoldable pub shape_of : ℕ → List Triple
shape_of signs = shape_front signs 6

-- an edge of the cell at the origin, in another cell
abbrev pub moved : SidedCell → EdgeKey → EdgeKey
moved c e = record { x = c.x + e.x; y = c.y + e.y; z = c.z + e.z; dir = e.dir }

abbrev pub moved_triple : SidedCell → Triple → Triple
moved_triple c t = record { a = moved c t.a; b = moved c t.b; c = moved c t.c }

-- the triangles of a cell by its place and sides
abbrev pub sided_triangles : SidedCell → List Triple
sided_triangles c = map (moved_triple c) (shape_of c.signs)

-- the triangles for these signs are made
pub record IsMade (s : Kept) (signs : ℕ) : Type 0 where
  pub place : ℕ
  pub at : get_or s.places.items signs 0 ≡ place + 1
  pub within : place < length s.shapes.items
  pub shape : (d : Shape) → HasTriangles (shape_of signs) (get_or s.shapes.items place d)

-- those that have a place are made
pub record AreMade (s : Kept) : Type 0 where
  pub room : length s.places.items ≡ 256
  pub each : (signs : ℕ) → 0 < get_or s.places.items signs 0 → IsMade s signs
  pub ranks : AreRanks s.ranks.items

-- those of these cells are made
pub record AreShapes (sided : List SidedCell) (s : Kept) : Type 0 where
  pub made : AreMade s
  pub each : All (λ (c : SidedCell). IsMade s c.signs) sided

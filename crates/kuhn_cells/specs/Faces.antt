-- The faces of a mesh.
use Rattle.std.specs.Prelude.{ℕ, ◌==◌, Bool, ◌&&◌, List, map, flat_map}
use Rattle.std.specs.List.{range_with_len, position_or_len}
use Rattle.kuhn_cells.specs.declared.edge_key.EdgeKey.{EdgeKey}
use Rattle.kuhn_cells.specs.declared.triple.Triple.{Triple}
use Rattle.kuhn_cells.specs.Grids.{Grid, is_inside_at, over_block, vertices}
use Rattle.kuhn_cells.specs.Triangles.{GridPoint, further, triangles_in}

-- a face, by the numbers of its three vertices
pub record Face : Type 0 where
  pub a : ℕ
  pub b : ℕ
  pub c : ℕ

abbrev pub same_edge : EdgeKey → EdgeKey → Bool
same_edge e f = e.x == f.x && (e.y == f.y && (e.z == f.z && e.dir == f.dir))

-- the number of a vertex is its place among all vertices
abbrev pub number_among : List EdgeKey → EdgeKey → ℕ
number_among all e = position_or_len (same_edge e) all

abbrev pub face_among : List EdgeKey → Triple → Face
face_among all t =
    record { a = number_among all t.a; b = number_among all t.b; c = number_among all t.c }

-- the triangles of a cell, by the numbers of its tetrahedra
abbrev pub cell_triangles : (GridPoint → Bool) → GridPoint → List Triple
cell_triangles inside cell =
    flat_map (λ tetra. triangles_in cell tetra (λ c. inside (further cell c))) (range_with_len 0 6)

-- the triangles of all cells, by z, then by y, then by x
unfoldable pub all_triangles : Grid → List Triple
all_triangles g = over_block g.x g.y g.z (cell_triangles (is_inside_at g))

-- the faces: the triangles of all cells, by the numbers of their vertices
unfoldable pub faces : Grid → List Face
faces g = map (face_among (vertices g)) (all_triangles g)

-- Triangles by their edges, each edge once.
use Rattle.std.specs.Prelude.{◌≡◌, ℕ, ◌+◌, ◌*◌, ◌<◌, ◌≤◌, List, [], ◌∷◌, ◌++◌, All, Contains, flat_map, get_or, length, map}
use Rattle.kuhn_cells.specs.Faces.{Face}
use Rattle.kuhn_cells.specs.declared.edge_key.EdgeKey.{EdgeKey}
use Rattle.kuhn_cells.specs.declared.triple.Triple.{Triple}
use Rattle.tetra_mesh.specs.declared.shape.Corners.{Corners}
use Rattle.tetra_mesh.specs.declared.shape.Shape.{Shape}

abbrev pub no_edge : EdgeKey
no_edge = record { x = 0; y = 0; z = 0; dir = 0 }

-- the triangle whose edges stand at some places of a list
abbrev pub among : List EdgeKey → Corners → Triple
among edges p =
    record { a = get_or edges p.a no_edge; b = get_or edges p.b no_edge; c = get_or edges p.c no_edge }

-- they stand there
pub record AreAmong (count : ℕ) (p : Corners) : Type 0 where
  pub a : p.a < count
  pub b : p.b < count
  pub c : p.c < count

-- the edges of a triangle, and of some
abbrev pub edges_in : Triple → List EdgeKey
edges_in t = t.a ∷ t.b ∷ t.c ∷ []

abbrev pub all_edges_in : List Triple → List EdgeKey
all_edges_in ts = flat_map edges_in ts

-- the edges of some triangles and of no others, and these triangles by them
pub record HasTriangles (ts : List Triple) (s : Shape) : Type 0 where
  pub triangles : map (among s.edges.items) s.triangles.items ≡ ts
  pub places : All (AreAmong (length s.edges.items)) s.triangles.items
  pub own : All (Contains (all_edges_in ts)) s.edges.items
  pub few : length s.edges.items ≤ 3 * length ts

-- an edge stands at a place of a list, to which no other one is added
pub record AddsEdge (e : EdgeKey) (old new : List EdgeKey) (place : ℕ) : Type 0 where
  pub added : List EdgeKey
  pub grown : new ≡ old ++ added
  pub own : All (λ x. x ≡ e) added
  pub few : length new ≤ length old + 1
  pub within : place < length new
  pub at : get_or new place no_edge ≡ e

-- a triangle is added, and none but its edges
pub record AddsTriangle (t : Triple) (old new : List EdgeKey) (before after : List Corners) : Type 0 where
  pub corners : Corners
  pub pushed : after ≡ before ++ corners ∷ []
  pub same : among new corners ≡ t
  pub within : AreAmong (length new) corners
  pub added : List EdgeKey
  pub grown : new ≡ old ++ added
  pub own : All (Contains (edges_in t)) added
  pub few : length new ≤ length old + 3

-- the face whose vertices have the numbers at some places of a list
abbrev pub face_by : List ℕ → Corners → Face
face_by numbers p =
    record { a = get_or numbers p.a 0; b = get_or numbers p.b 0; c = get_or numbers p.c 0 }

-- Faces that are written as three numbers, and their corners.
use Rattle.std.specs.Prelude.{ℕ, List, map, get_or}
use Rattle.kuhn_cells.specs.Faces.{Face as Triple}
use Rattle.mesh_laws.specs.Closed.{directed_edges}

-- the face of three numbers
abbrev pub triple_of : List ℕ → Triple
triple_of xs = record { a = get_or xs 0 0; b = get_or xs 1 0; c = get_or xs 2 0 }

abbrev pub triples : List (List ℕ) → List Triple
triples faces = map triple_of faces

-- the vertices at the corners of faces, each of which is the first of a directed edge
abbrev pub corners : List (List ℕ) → List ℕ
corners faces = map (λ (e : ℕ × ℕ). e.0) (directed_edges (triples faces))

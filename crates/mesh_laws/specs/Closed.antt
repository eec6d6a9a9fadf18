-- Closed meshes.
use Rattle.std.specs.Prelude.{◌≡◌, ℕ, ◌==◌, Bool, ◌&&◌, List, [], ◌∷◌, flat_map, count_by, All}
use Rattle.kuhn_cells.specs.Faces.{Face}

-- the directed edges of a face: each goes from one vertex to the next
abbrev pub directed_edges_of : Face → List (ℕ × ℕ)
directed_edges_of f = (f.a, f.b) ∷ (f.b, f.c) ∷ (f.c, f.a) ∷ []

-- the directed edges of all faces
abbrev pub directed_edges : List Face → List (ℕ × ℕ)
directed_edges faces = flat_map directed_edges_of faces

-- a directed edge goes from u to v
abbrev pub goes : ℕ → ℕ → ℕ × ℕ → Bool
goes u v e = e.0 == u && e.1 == v

-- in how many places of a list an edge goes from u to v
abbrev pub occurrences : List (ℕ × ℕ) → ℕ → ℕ → ℕ
occurrences edges u v = count_by (goes u v) edges

-- a face of three different vertices
pub record IsTriangle (f : Face) : Type 0 where
  pub ab : f.a ≡ f.b → ⊥
  pub bc : f.b ≡ f.c → ⊥
  pub ca : f.c ≡ f.a → ⊥

-- A mesh is closed, and its faces are turned alike, where each directed edge occurs in one place
-- only, and so does the same edge in the other direction.
pub record IsClosed (faces : List Face) : Type 0 where
  pub triangles : All IsTriangle faces
  pub once : All (λ e. occurrences (directed_edges faces) e.0 e.1 ≡ 1) (directed_edges faces)
  pub back : All (λ e. occurrences (directed_edges faces) e.1 e.0 ≡ 1) (directed_edges faces)

-- Meshes that are manifolds.
use Rattle.std.specs.Prelude.{◌≡◌, ℕ, ◌==◌, ◌<◌, ◌≤◌, List, [], ◌∷◌, flat_map, length, AllPairs, if◌then◌else◌}
use Rattle.kuhn_cells.specs.Faces.{Face}
use Rattle.mesh_laws.specs.Closed.{occurrences}

-- the arc that a triangle leaves opposite one of its three different corners: it runs from the next
-- one to the last
abbrev pub arcs_at : ℕ → ℕ → ℕ → ℕ → List (ℕ × ℕ)
arcs_at u a b c =
    if a == u then (b, c) ∷ []
    else (if b == u then (c, a) ∷ [] else (if c == u then (a, b) ∷ [] else []))

-- the arcs that the faces of a vertex leave opposite it
abbrev pub arcs : List Face → ℕ → List (ℕ × ℕ)
arcs faces u = flat_map (λ f. arcs_at u f.a f.b f.c) faces

-- the arcs of a cycle: from each of its vertices to the next, and from the last to the first
abbrev pub arcs_on : ℕ → ℕ → List ℕ → List (ℕ × ℕ)
arcs_on first v [] = (v, first) ∷ []
arcs_on first v (w ∷ ws) = (v, w) ∷ arcs_on first w ws

abbrev pub cycle_arcs : List ℕ → List (ℕ × ℕ)
cycle_arcs [] = []
cycle_arcs (v ∷ vs) = arcs_on v v vs

-- The faces of a vertex make one fan that closes round it: the arcs opposite it are exactly those
-- of one cycle through three different vertices at least.
pub record HasFan (faces : List Face) (u : ℕ) : Type 0 where
  pub cycle : List ℕ
  pub long : 3 ≤ length cycle
  pub differ : AllPairs (λ v w. v ≡ w → ⊥) cycle
  pub exact : (v w : ℕ) → occurrences (arcs faces u) v w ≡ occurrences (cycle_arcs cycle) v w

-- each of so many vertices has one fan of faces
abbrev pub IsManifold : ℕ → List Face → Type 0
IsManifold count faces = (u : ℕ) → u < count → HasFan faces u

-- The tetrahedra round an edge.
use Rattle.std.specs.Prelude.{◌≡◌, ℕ, ◌+◌, ◌==◌, ◌<◌, ◌≤◌, pos, int_lt, ◌&&◌, not, List, [], ◌∷◌, map, filter, get_or, All, AllPairs, Contains, if◌then◌else◌}
use Rattle.kuhn_cells.specs.Arrangement.{positions}
use Rattle.kuhn_cells.specs.Corners.{corner, corner_place}
use Rattle.kuhn_cells.specs.Vectors.{Vector, determinant, vector_between}

-- A tetrahedron of a cell has an edge of a direction that starts at a corner. Both are told by a
-- pair of the corner and the tetrahedron's number.
pub record HasEdge (dir : ℕ) (m : ℕ × ℕ) : Type 0 where
  pub few : m.1 < 6
  pub start : Contains (map (corner m.1) positions) m.0
  pub end : Contains (map (corner m.1) positions) (m.0 + dir)

-- the two corners of the tetrahedron that do not lie on the edge
abbrev pub corners_off : ℕ → ℕ × ℕ → List ℕ
corners_off dir m =
    filter (λ c. not (c == m.0) && not (c == m.0 + dir)) (map (corner m.1) positions)

-- where a corner lies from the start of the edge
abbrev pub from_start : ℕ × ℕ → ℕ → Vector
from_start m c = vector_between (corner_place m.0) (corner_place c)

-- the two corners off the edge, as the tetrahedron lies between them where one turns round the
-- edge, counterclockwise seen from its upper end
abbrev pub sides : ℕ → ℕ × ℕ → Vector × Vector
sides dir m =
    let r = from_start m (get_or (corners_off dir m) 0 0) in
    let s = from_start m (get_or (corners_off dir m) 1 0) in
    if int_lt (pos 0) (determinant (corner_place dir) r s) then (r, s) else (s, r)

-- one after another, and the first after the last
abbrev pub follow_on : {A : Type 0} → A → A → List A → List (A × A)
follow_on first a [] = (a, first) ∷ []
follow_on first a (b ∷ bs) = (a, b) ∷ follow_on first b bs

abbrev pub in_turn : {A : Type 0} → List A → List (A × A)
in_turn [] = []
in_turn (a ∷ bs) = follow_on a a bs

-- All tetrahedra round an edge of a direction, each once, as one turns round it, counterclockwise
-- seen from its upper end: each one ends at the side where the next begins. The first has the least
-- number.
pub record IsRing (dir : ℕ) (ms : List (ℕ × ℕ)) : Type 0 where
  pub edges : All (HasEdge dir) ms
  pub all : (m : ℕ × ℕ) → HasEdge dir m → Contains ms m
  pub once : AllPairs (λ m n. m ≡ n → ⊥) ms
  pub turn : All (λ p. (sides dir p.0).1 ≡ (sides dir p.1).0) (in_turn ms)
  pub least : All (λ m. (get_or ms 0 m).1 ≤ m.1) ms

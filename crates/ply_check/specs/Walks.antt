-- Walks from a number to the next, again and again.
use Rattle.std.specs.Prelude.{◌≡◌, ℕ, zero, suc, ◌<◌, ◌≤◌, List, [], ◌∷◌, length, get_or, map, All, AllPairs}

-- the number that so many steps lead to
abbrev pub stepped : (ℕ → ℕ) → ℕ → ℕ → ℕ
stepped next zero x = x
stepped next (suc n) x = stepped next n (next x)

-- a walk does not come back to its start before it has made so many steps
abbrev pub IsNotBack : (ℕ → ℕ) → ℕ → ℕ → Type 0
IsNotBack next n x = (i : ℕ) → 0 < i → i < n → stepped next i x ≡ x → ⊥

-- the next number by a table
abbrev pub table : List ℕ → ℕ → ℕ
table next v = get_or next v 0

-- the vertex that the first arc leaves
abbrev pub first_of : List (ℕ × ℕ) → ℕ
first_of [] = 0
first_of (e ∷ es) = e.0

-- no two arcs leave the same vertex
abbrev pub HaveOneSource : List (ℕ × ℕ) → Type 0
HaveOneSource es = AllPairs (λ (x y : ℕ). x ≡ y → ⊥) (map (λ (e : ℕ × ℕ). e.0) es)

-- each arc leads to the next vertex
abbrev pub LeadsOn : (ℕ → ℕ) → List (ℕ × ℕ) → Type 0
LeadsOn next es = All (λ (e : ℕ × ℕ). next e.0 ≡ e.1) es

-- There are three arcs at least, and the way along them does not come back in fewer steps than there are
-- arcs.
pub record GoesRound (next : ℕ → ℕ) (es : List (ℕ × ℕ)) : Type 0 where
  pub long : 3 ≤ length es
  pub away : IsNotBack next (length es) (first_of es)

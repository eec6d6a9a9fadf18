-- Which names clauses have so far, and how many clauses there are, so that the next name is new and has room.
use Rattle.std.specs.Prelude.{◌≡◌, ℕ, ◌+◌, ◌-◌, ◌*◌, ◌<◌, ◌≤◌, ◌⊎◌, List, All, ◌∷◌, length, decimal}
use Rattle.solid_model.specs.declared.clause.Clause.{Clause}

-- a name of a letter and the number of a disc, which is an earlier one, or the same and then the
-- letter is an earlier one
pub record IsEarlier (name : List ℕ) (letter disc : ℕ) : Type 0 where
  pub own_letter : ℕ
  pub own_disc : ℕ
  pub is : name ≡ own_letter ∷ decimal own_disc
  pub earlier : (own_disc < disc) ⊎ ((own_disc ≡ disc) × (own_letter < letter))

-- the name of an axis, which is one letter alone, or an earlier name
abbrev pub IsBefore : ℕ → ℕ → List ℕ → Type 0
IsBefore letter disc name = (length name ≡ 1) ⊎ IsEarlier name letter disc

-- the names so far come before that of a letter and a disc, and each disc has at most 12 clauses,
-- of which the first is named by the letter 97, which is `a`
pub record IsNext (clauses : List Clause) (letter disc : ℕ) : Type 0 where
  pub letters : 97 ≤ letter
  pub few : length clauses ≤ 2 + 12 * disc + (letter - 97)
  pub before : All (λ c. IsBefore letter disc c.name) clauses

-- the same for this letter and all later ones
abbrev pub TakesFrom : List Clause → ℕ → ℕ → Type 0
TakesFrom clauses letter disc = (later : ℕ) → letter ≤ later → IsNext clauses later disc

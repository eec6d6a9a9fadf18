-- How many wants may stand at once.
use Rattle.std.specs.Prelude.{ℕ, ◌≤◌, List, [], ◌∷◌, length}
use Rattle.solid_lang.specs.declared.want.Want.{Want}
use Rattle.solid_lang.specs.declared.want.Want.TheVariants.{Whole}

-- A want stands before so many others: a solid within at least as many forms, since each of these
-- wants at most one solid more, and a numeral with room for all numbers of its form.
abbrev pub FitsBefore : Want → ℕ → Type 0
FitsBefore (Whole within) others = (others ≤ within) × (within ≤ 256)
FitsBefore want others = others ≤ 259

-- each want fits before those behind it
abbrev pub HaveRoom : List Want → Type 0
HaveRoom [] = Unit {0}
HaveRoom (want ∷ wants) = FitsBefore want (length wants) × HaveRoom wants

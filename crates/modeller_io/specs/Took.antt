-- What calls took from a source.
use Rattle.std.specs.Prelude.{ℕ, ◌≤◌, List, length, Option}
use Rattle.std.specs.Io.KnownBytes.{Consumes}
use Rattle.modeller_io.specs.Count.{RoseBy}

-- where the source tells what is left, that began with these bytes before the call, and lost them
abbrev pub Loses : {S : Type 0} → (S → Option (List ℕ)) → S → S → List ℕ → Type 0
Loses rest before after bytes = Consumes (rest before) (rest after) bytes

-- The source lost some bytes from its front, at most so many, and counted them. Where it tells
-- nothing, the count alone is said.
pub record LosesAtMost {S : Type 0} (rest : S → Option (List ℕ)) (taken : S → ℕ)
    (before after : S) (most : ℕ) : Type 0 where
  pub bytes : List ℕ
  pub within : length bytes ≤ most
  pub lost : Loses rest before after bytes
  pub counted : RoseBy taken before after (length bytes)

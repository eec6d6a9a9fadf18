-- Texts that are made piece by piece.
use Rattle.std.specs.Prelude.{ℕ, List}

-- the piece of a text that was made last, and what comes after it
pub record Stage : Type 0 where
  pub piece : List ℕ
  pub rest : List ℕ

-- The lowest number at which something fails.
use Rattle.std.specs.Prelude.{ℕ, ◌<◌}

-- of the numbers below a count the lowest at which a fact does not hold
pub record IsLowestFault (P : ℕ → Type 0) (count k : ℕ) : Type 0 where
  pub within : k < count
  pub fails : ¬ P k
  pub below : (j : ℕ) → j < k → P j

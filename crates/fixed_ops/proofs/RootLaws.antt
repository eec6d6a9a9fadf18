-- How great a square root is.
use Rattle.std.proofs.Common.{◌*◌, ◌^◌, ◌<◌, ◌≤◌, ℕ, arith, ⊎_elim}
use Rattle.std.proofs.Math.Nat.{mul-le-mul}
use Rattle.std.proofs.lemmas.Bool.{cases_lt}

-- a number whose square is below 2^94 is below 2^47
pub small_root : (r n : ℕ) → r * r ≤ n → n < 2 ^ 94 → r < 2 ^ 47
small_root r n h k =
    ⊎_elim (λ (lt : r < 2 ^ 47). lt)
    (λ (le : 2 ^ 47 ≤ r). absurd (omega (arith, h, k, mul-le-mul le le)))
    (cases_lt r (2 ^ 47))

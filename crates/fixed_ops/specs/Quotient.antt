-- Quotients of raw numbers.
use Rattle.std.specs.Prelude.{◌^◌, ℤ, pos, negsuc, ◌+ℤ◌, ◌*ℤ◌, ◌≤ℤ◌, ◌<ℤ◌}
use Prim.Native.Nat.{zero, suc}
use lib.IntN.{neg_ℤ}
use Rattle.fixed_ops.specs.Raw.{greatest, least, clamp, floor_div}

-- a number divided by 0: the greatest or the least raw number by its sign, and 0 for 0
abbrev pub over_zero : ℤ → ℤ
over_zero (pos zero) = pos 0
over_zero (pos (suc n)) = greatest
over_zero (negsuc n) = least

-- a * 2^32 / b, rounded down and clamped. A divisor below 0 is made positive by turning both signs
abbrev pub quotient_of : ℤ → ℤ → ℤ
quotient_of a (pos zero) = over_zero a
quotient_of a (pos (suc d)) = clamp (floor_div (a *ℤ pos (2 ^ 32)) (suc d))
quotient_of a (negsuc d) = clamp (floor_div (neg_ℤ a *ℤ pos (2 ^ 32)) (suc d))

-- q is the greatest whole number that is at most t / b, for b other than 0
pub record IsRoundedDown (t b q : ℤ) : Type 0 where
  pub positive : pos 0 <ℤ b → ((q *ℤ b) ≤ℤ t) × (t <ℤ ((q +ℤ pos 1) *ℤ b))
  pub negative : b <ℤ pos 0 → (t ≤ℤ (q *ℤ b)) × (((q +ℤ pos 1) *ℤ b) <ℤ t)

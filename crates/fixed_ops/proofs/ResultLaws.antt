-- The root is the greatest number whose square is at most n, and results are raw numbers.
use Rattle.std.proofs.Common.{◌≡◌, ◌+◌, ◌*◌, ◌^◌, ◌<◌, ◌≤◌, ℕ, zero, suc, ℤ, pos, neg_ℤ, ◌+ℤ◌, ◌*ℤ◌, Bool, true, false, cond, refl, sym, ap, arith, ⊎_elim}
use Rattle.std.specs.Prelude.{negsuc, nat_le, ◌-ℤ◌, ◌≤ℤ◌}
use Rattle.std.proofs.lemmas.Bool.{cases_lt}
use Rattle.std.proofs.lemmas.Bool.Decides.{nat_tests}
use Rattle.std.proofs.lemmas.Int.{ints, clamps}
use Rattle.std.proofs.Math.Nat.{mul-le-mul}
use Rattle.fixed_ops.specs.declared.operation.Op.{Op}
use Rattle.fixed_ops.specs.declared.operation.Op.TheVariants.{X, Y, Z, Const, Neg, Square, Sqrt, Abs, Floor, Add, Sub, Mul, Div, Min, Max}
use Rattle.fixed_ops.specs.Operations.{op_result, square_root_of}
use Rattle.fixed_ops.specs.Quotient.{quotient_of, over_zero}
use Rattle.fixed_ops.specs.Raw.{IsRaw, floor_div}
use Rattle.fixed_ops.specs.Root.{IsRoot, IsRawRoot, root_up_to, floor_root}
use Rattle.fixed_ops.proofs.RoundingLaws.{IsRaw-clamp}

-- the choice of a root, as it is written in the definition
chosen : (n k r : ℕ) (b : Bool) → b ≡ nat_le (suc k * suc k) n → n < (suc k + 1) * (suc k + 1)
    → (n < (k + 1) * (k + 1) → IsRoot n r) → IsRoot n (cond b (suc k) r)
chosen n k r true e h p = (grind (arith, nat_tests), h)
chosen n k r false e h p = p (grind (arith, nat_tests))

-- it is a root, once k is no less than the root
root_up_to_is_root : (n k : ℕ) → n < (k + 1) * (k + 1) → IsRoot n (root_up_to n k)
unfolding root_up_to
root_up_to_is_root n zero h = (omega arith, omega arith)
root_up_to_is_root n (suc k) h =
    chosen n k (root_up_to n k) (nat_le (suc k * suc k) n) refl h (root_up_to_is_root n k)

-- the root is one
pub floor_root_is_root : (n : ℕ) → IsRoot n (floor_root n)
unfolding floor_root
floor_root_is_root n = root_up_to_is_root n n (omega arith)

-- a root is no greater than another
root_le : (n r s : ℕ) → IsRoot n r → IsRoot n s → r ≤ s
root_le n r s h k =
    ⊎_elim (λ (lt : s < r). absurd
    (omega (
      arith,
      mul-le-mul {n₁ = s + 1} {m₁ = s + 1} {n₂ = r} {m₂ = r} (omega arith)
          (omega arith),
      h.0,
      k.1,
    )))
    (λ (le : r ≤ s). le)
    (cases_lt s r)

-- two roots of a number are one
pub root_unique : (n r s : ℕ) → IsRoot n r → IsRoot n s → r ≡ s
root_unique n r s h k = omega (arith, root_le n r s h k, root_le n s r k h)

-- a root is the root
pub root_is : (n r : ℕ) → IsRoot n r → r ≡ floor_root n
root_is n r h = root_unique n r (floor_root n) h (floor_root_is_root n)

-- the root of what is not above 0
pub root_of_low : (a : ℤ) → a ≤ℤ pos 0 → square_root_of a ≡ pos 0
root_of_low (pos zero) h = ap pos (sym (root_is 0 0 (omega arith, omega arith)))
root_of_low (pos (suc n)) h = absurd (omega (arith, ints, h))
root_of_low (negsuc n) h = refl

-- the root of a raw number is its root
pub root_of_is_root : (a : ℤ) → IsRawRoot a (square_root_of a)
root_of_is_root (pos n) = (floor_root (n * 2 ^ 32), refl, floor_root_is_root (n * 2 ^ 32))
root_of_is_root (negsuc n) = refl

IsRaw-over_zero : (a : ℤ) → IsRaw (over_zero a)
IsRaw-over_zero (pos zero) = (omega (arith, ints), omega (arith, ints))
IsRaw-over_zero (pos (suc n)) = (omega (arith, ints), omega (arith, ints))
IsRaw-over_zero (negsuc n) = (omega (arith, ints), omega (arith, ints))

IsRaw-quotient_of : (a b : ℤ) → IsRaw (quotient_of a b)
IsRaw-quotient_of a (pos zero) = IsRaw-over_zero a
IsRaw-quotient_of a (pos (suc d)) = IsRaw-clamp (floor_div (a *ℤ pos (2 ^ 32)) (suc d))
IsRaw-quotient_of a (negsuc d) = IsRaw-clamp (floor_div (neg_ℤ a *ℤ pos (2 ^ 32)) (suc d))

IsRaw-root_of : (a : ℤ) → IsRaw a → IsRaw (square_root_of a)
IsRaw-root_of (pos n) h =
    let root = floor_root_is_root (n * 2 ^ 32) in
    let below : floor_root (n * 2 ^ 32) < 2 ^ 47 =
    ⊎_elim (λ (lt : floor_root (n * 2 ^ 32) < 2 ^ 47). lt)
    (λ (le : 2 ^ 47 ≤ floor_root (n * 2 ^ 32)). absurd (omega
    (arith, ints, h.1, root.0, mul-le-mul le le)))
    (cases_lt (floor_root (n * 2 ^ 32)) (2 ^ 47)) in
    (omega (arith, ints), omega (arith, ints, below))
IsRaw-root_of (negsuc n) h = (omega (arith, ints), omega (arith, ints))

pub IsRaw-op_result : (op : Op) (a b : ℤ) → IsRaw a → IsRaw b → IsRaw (op_result op a b)
IsRaw-op_result X a b h k = h
IsRaw-op_result Y a b h k = h
IsRaw-op_result Z a b h k = h
IsRaw-op_result Const a b h k = h
IsRaw-op_result Neg a b h k = (omega (arith, ints), omega (arith, ints))
IsRaw-op_result Square a b h k = IsRaw-clamp (floor_div (a *ℤ a) (2 ^ 32))
IsRaw-op_result Sqrt a b h k = IsRaw-root_of a h
IsRaw-op_result Abs a b h k = (omega (arith, ints, clamps), omega (arith, ints, clamps))
IsRaw-op_result Floor a b h k = IsRaw-clamp (floor_div a (2 ^ 32) *ℤ pos (2 ^ 32))
IsRaw-op_result Add a b h k = IsRaw-clamp (a +ℤ b)
IsRaw-op_result Sub a b h k = IsRaw-clamp (a -ℤ b)
IsRaw-op_result Mul a b h k = IsRaw-clamp (floor_div (a *ℤ b) (2 ^ 32))
IsRaw-op_result Div a b h k = IsRaw-quotient_of a b
IsRaw-op_result Min a b h k = (omega (arith, ints, clamps), omega (arith, ints, clamps))
IsRaw-op_result Max a b h k = (omega (arith, ints, clamps), omega (arith, ints, clamps))

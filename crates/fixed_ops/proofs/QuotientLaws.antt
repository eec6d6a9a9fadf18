-- Quotients of products with 2^32, rounded down and up.
use Rattle.std.proofs.Common.{◌≡◌, ◌+◌, ◌-◌, ◌*◌, ◌/◌, ◌%◌, ◌^◌, ◌<◌, ◌≤◌, ℕ, zero, suc, ℤ, pos, neg_ℤ, ◌*ℤ◌, min, refl, sym, ap, ◌∙◌, arith, ltb}
use Rattle.std.proofs.lemmas.Bool.Decides.{nat_tests}
use Rattle.std.specs.Prelude.{negsuc}
use Rattle.std.proofs.Math.Nat.{add-mul-div_right, mul-le-mul_left, mul-le-mul_right}
use Rattle.std.proofs.lemmas.Int.{ints, clamps}
use Rattle.std.proofs.lemmas.Nat.{div-add-mod', mod_below, div-mul-add, div_below, le-div, leading_top, shl_below, pow-add}
use Rattle.std.specs.Int.Count.{count_leading_zeros}
use Rattle.std.specs.Prelude.{unsigned_abs, false}
use mathlib.Core.Bool.{beq}
use lib.Signed.{lt_z}
use Rattle.fixed_ops.specs.Quotient.{quotient_of}
use Rattle.fixed_ops.specs.Raw.{clamp, floor_div}

-- the whole part of n / d and the part below it, each times k
pub whole_and_fraction : (n d k : ℕ) → 0 < d → n * k / d ≡ n / d * k + n % d * k / d
whole_and_fraction n d k h =
    let e : n * k ≡ n % d * k + n / d * k * d = grind (arith, div-add-mod' n d) in
    ap (λ x. x / d) e ∙ add-mul-div_right (n % d * k) (n / d * k) h ∙ omega arith

-- rounded up, where there is no remainder
pub round_up_whole : (x d : ℕ) → 0 < d → x ≤ x / d * d → (x + (d - 1)) / d ≡ x / d
round_up_whole x d h e =
    let q : x + (d - 1) ≡ x / d * d + (d - 1) = omega (arith, div-add-mod' x d) in
    ap (λ y. y / d) q ∙ div-mul-add (x / d) d (d - 1) (omega arith)

-- rounded up, where there is a remainder
pub round_up_part : (x d : ℕ) → 0 < d → x / d * d < x → (x + (d - 1)) / d ≡ x / d + 1
round_up_part x d h e =
    let q : x + (d - 1) ≡ (x / d + 1) * d + (x % d - 1) = omega (arith, div-add-mod' x d) in
    ap (λ y. y / d) q ∙ div-mul-add (x / d + 1) d (x % d - 1) (omega (arith, mod_below x d h))

-- rounded up is no less than rounded down
pub round_up_great : (x d : ℕ) → 0 < d → x / d ≤ (x + (d - 1)) / d
round_up_great x d h = le-div (x / d) (x + (d - 1)) d h (omega (arith, div-add-mod' x d))

-- a number of 64 bits, shifted until its leading bit is the highest
pub shifted_whole : (n : ℕ) → 0 < n → n < 2 ^ 64 → (2 ^ 63 ≤ n * 2 ^ count_leading_zeros 64 n) × (n * 2 ^ count_leading_zeros 64 n < 2 ^ 64)
shifted_whole n h k =
    let t = leading_top 64 n h k in
    let z = count_leading_zeros 64 n in
    let exact : t.0 + z ≡ 63 = omega arith in
    let next : suc t.0 + z ≡ 64 = omega arith in
    let whole : 2 ^ t.0 * 2 ^ z ≡ 2 ^ 63 = sym (pow-add 2 t.0 z) ∙ ap (λ (x : ℕ). 2 ^ x) exact in
    let above : 2 ^ (suc t.0 + z) ≡ 2 ^ 64 = ap (λ (x : ℕ). 2 ^ x) next in
    (omega (arith, mul-le-mul_right (2 ^ z) t.2), rw above at (shl_below n (suc t.0) z t.3))

-- the leading bits of a divisor give a quotient that is not less
pub leading_bits_quotient : (r d p : ℕ) → 0 < d → 0 < d * p / 2 ^ 32 → r * 2 ^ 32 / d ≤ r * p / (d * p / 2 ^ 32)
leading_bits_quotient r d p h k =
    let top = d * p / 2 ^ 32 in
    let q = r * 2 ^ 32 / d in
    let below : q * d ≤ r * 2 ^ 32 = omega (arith, div-add-mod' (r * 2 ^ 32) d) in
    let part : top * 2 ^ 32 ≤ d * p = omega arith in
    let scaled : q * d * p ≤ r * 2 ^ 32 * p = mul-le-mul_right p below in
    let leading : q * (top * 2 ^ 32) ≤ q * (d * p) = mul-le-mul_left q part in
    le-div q (r * p) top k (omega arith)

-- the quotient of a number below 0 is rounded away from 0
negative_floor : (x d : ℕ) → 0 < x → clamp (floor_div (neg_ℤ (pos x)) (suc d)) ≡ neg_ℤ (pos (min ((x + d) / suc d) (2 ^ 62 - 1)))
negative_floor zero d h = absurd (omega (arith, h))
negative_floor (suc y) d h =
    let sum : suc y + d ≡ y + 1 * suc d = omega arith in
    let q : (suc y + d) / suc d ≡ y / suc d + 1 = ap (λ (x : ℕ). x / suc d) sum ∙ add-mul-div_right y 1 (omega arith) in
    omega (arith, ints, clamps)

-- the quotient of a number at most 0 is rounded away from 0
pub negative_quotient : (n d : ℕ) → clamp (floor_div (neg_ℤ (pos n) *ℤ pos (2 ^ 32)) (suc d)) ≡ neg_ℤ (pos (min ((n * 2 ^ 32 + d) / suc d) (2 ^ 62 - 1)))
negative_quotient zero d =
    let none : (0 + d) / suc d ≡ 0 = omega (arith, div_below (0 + d) (suc d) 1 (omega arith) (omega arith)) in
    let nothing : 0 / suc d ≡ 0 = omega (arith, div_below 0 (suc d) 1 (omega arith) (omega arith)) in
    rw (none, nothing) refl
negative_quotient (suc n) d = negative_floor (suc n * 2 ^ 32) d (omega arith)

-- no natural number is below 0
not_below : (n : ℕ) → ltb n 0 ≡ false
not_below n = grind (arith, nat_tests)

-- the quotient of numbers of unlike signs
pub opposite_quotient : (a b r : ℤ) → beq (lt_z a (pos 0)) (lt_z b (pos 0)) ≡ false → (unsigned_abs b ≡ 0 → ⊥) → r ≡ pos (min ((unsigned_abs a * 2 ^ 32 + (unsigned_abs b - 1)) / unsigned_abs b) (2 ^ 62 - 1)) → neg_ℤ r ≡ quotient_of a b
opposite_quotient (pos n) (pos d) r h k e =
    let left : ltb n 0 ≡ false = not_below n in
    let right : ltb d 0 ≡ false = not_below d in
    cc
opposite_quotient (pos n) (negsuc d) r h k e =
    let one_less : suc d - 1 ≡ d = omega arith in
    ap neg_ℤ (rw one_less at e) ∙ sym (negative_quotient n d)
opposite_quotient (negsuc n) (pos zero) r h k e = absurd (k refl)
opposite_quotient (negsuc n) (pos (suc d)) r h k e =
    let one_less : suc d - 1 ≡ d = omega arith in
    ap neg_ℤ (rw one_less at e) ∙ sym (negative_floor (suc n * 2 ^ 32) d (omega arith))
opposite_quotient (negsuc n) (negsuc d) r h k e = cc

-- Floors, clamps and quotients are what inequalities say of them, and nothing else is.
use Rattle.std.proofs.Common.{◌≡◌, ◌≢◌, ◌+◌, ◌*◌, ◌^◌, ◌<◌, ◌≤◌, ℕ, zero, suc, ℤ, pos, neg_ℤ, ◌+ℤ◌, ◌*ℤ◌, refl, arith}
use Rattle.std.specs.Prelude.{negsuc, ◌<ℤ◌, ◌≤ℤ◌}
use Rattle.std.proofs.lemmas.Int.{ints, clamps, by_lt_z}
use Rattle.std.proofs.lemmas.Nat.{div-add-mod', mod_below}
use Rattle.std.proofs.Math.Nat.{mul-le-mul_right}
use borrow.Author.Differences.{up, down}
use Rattle.fixed_ops.specs.Floor.{IsFloor}
use Rattle.fixed_ops.specs.Laws.{IsClamped, IsClampedQuotient, IsOverZero}
use Rattle.fixed_ops.specs.Quotient.{IsRoundedDown, quotient_of}
use Rattle.fixed_ops.specs.Raw.{IsRaw, clamp, floor_div}

-- one more than -(m + 1), times d
next_times : (m d : ℕ) → (negsuc m +ℤ pos 1) *ℤ pos d ≡ neg_ℤ (pos (m * d))
next_times zero d = omega (arith, ints)
next_times (suc m) d =
    let e : negsuc (suc m) +ℤ pos 1 ≡ negsuc m = omega (arith, ints) in
    rw e refl

-- the quotient is at most t / d, and one more is above it
pub floor_div_is_floor : (t : ℤ) (d : ℕ) → 0 < d → IsFloor t d (floor_div t d)
floor_div_is_floor (pos n) d h =
    let e = div-add-mod' n d in
    let m = mod_below n d h in
    (omega (arith, ints), omega (arith, ints))
floor_div_is_floor (negsuc n) d h =
    let e = div-add-mod' n d in
    let m = mod_below n d h in
    (omega (arith, ints), rw next_times (omega (arith, ints)))

pub IsRaw-clamp : (t : ℤ) → IsRaw (clamp t)
IsRaw-clamp t = (omega (arith, ints, clamps), omega (arith, ints, clamps))

pub clamp_is : (t : ℤ) → IsClamped t (clamp t)
clamp_is t = record {
  within = λ h. omega (arith, ints, clamps);
  above = λ h. omega (arith, ints, clamps);
  below = λ h. omega (arith, ints, clamps);
  raw = IsRaw-clamp t;
}

-- products with a natural number keep the order
pub product_le : (a b : ℤ) (d : ℕ) → a ≤ℤ b → (a *ℤ pos d) ≤ℤ (b *ℤ pos d)
product_le a b d h =
    let e : (up a + down b) * d ≤ (up b + down a) * d = mul-le-mul_right d (omega (arith, ints)) in
    omega (arith, ints, e)

-- a number whose multiple is below the next one of another is no greater
multiple_le : (q r : ℤ) (d : ℕ) → (q *ℤ pos d) <ℤ ((r +ℤ pos 1) *ℤ pos d) → q ≤ℤ r
multiple_le q r d h =
    by_lt_z r q (λ lt. absurd (omega (
      arith,
      ints,
      product_le (r +ℤ pos 1) q d
          (omega (arith, ints)),
    ))) (λ le. le)

-- a floor is no greater than another
floor_le : (t q r : ℤ) (d : ℕ) → IsFloor t d q → IsFloor t d r → q ≤ℤ r
floor_le t q r d f g = multiple_le q r d (omega (arith, ints, f.0, g.1))

pub floor_is : (t : ℤ) (d : ℕ) (q : ℤ) → 0 < d → IsFloor t d q → q ≡ floor_div t d
floor_is t d q h f =
    let is = floor_div_is_floor t d h in
    let le = floor_le t q (floor_div t d) d f is in
    let ge = floor_le t (floor_div t d) q d is f in
    omega (arith, ints)

-- one whole number is rounded down
pub rounded_down_once : (t b q r : ℤ) → b ≢ pos 0 → IsRoundedDown t b q → IsRoundedDown t b r
    → q ≡ r
rounded_down_once t (pos zero) q r h f g = absurd (h refl)
rounded_down_once t (pos (suc d)) q r h f g =
    let above : pos 0 <ℤ pos (suc d) = omega (arith, ints) in
    let le = floor_le t q r (suc d) (f.positive above) (g.positive above) in
    let ge = floor_le t r q (suc d) (g.positive above) (f.positive above) in
    omega (arith, ints)
rounded_down_once t (negsuc d) q r h f g =
    let below : negsuc d <ℤ pos 0 = omega (arith, ints) in
    let fs = f.negative below in
    let gs = g.negative below in
    let le = multiple_le q r (suc d) (omega (arith, ints, fs.0, gs.1)) in
    let ge = multiple_le r q (suc d) (omega (arith, ints, gs.0, fs.1)) in
    omega (arith, ints)

pub rounded_is_clamped : (a b : ℤ) → b ≢ pos 0 → IsClampedQuotient a b (quotient_of a b)
rounded_is_clamped a (pos zero) h = absurd (h refl)
rounded_is_clamped a (pos (suc d)) h = record {
  exact = floor_div (a *ℤ pos (2 ^ 32)) (suc d);
  rounded = record {
    positive = λ k. floor_div_is_floor (a *ℤ pos (2 ^ 32)) (suc d) (omega arith);
    negative = λ k. absurd (omega (arith, ints, k));
  };
  clamped = refl;
}
rounded_is_clamped a (negsuc d) h =
    let q = floor_div (neg_ℤ a *ℤ pos (2 ^ 32)) (suc d) in
    let f = floor_div_is_floor (neg_ℤ a *ℤ pos (2 ^ 32)) (suc d) (omega arith) in
    record {
      exact = q;
      rounded = record {
        positive = λ k. absurd (omega (arith, ints, k));
        negative = λ k. (omega (arith, ints, f.0), omega (arith, ints, f.1));
      };
      clamped = refl;
    }

pub over_zero_is : (a : ℤ) → IsOverZero a (quotient_of a (pos 0))
over_zero_is (pos zero) = record {
  positive = λ h. absurd (omega (arith, ints, h));
  zero = λ h. refl;
  negative = λ h. absurd (omega (arith, ints, h));
}
over_zero_is (pos (suc n)) =
    record { positive = λ h. refl; zero = λ h. cc; negative = λ h. absurd (omega (arith, ints, h)) }
over_zero_is (negsuc n) =
    record { positive = λ h. absurd (omega (arith, ints, h)); zero = λ h. cc; negative = λ h. refl }

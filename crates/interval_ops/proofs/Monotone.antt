-- How results rise and fall with their operands.
use Rattle.std.proofs.Common.{◌≡◌, ◌+◌, ◌-◌, ◌*◌, ◌/◌, ◌^◌, ◌<◌, ◌≤◌, ℕ, zero, suc, ℤ, pos, neg_ℤ, ◌*ℤ◌, refl, arith, ⊎_elim}
use Rattle.std.specs.Prelude.{negsuc, ◌≤ℤ◌}
use Rattle.std.proofs.lemmas.Bool.{cases_lt}
use Rattle.std.proofs.lemmas.Int.{ints, clamps}
use Rattle.std.proofs.lemmas.Nat.{le-div}
use Rattle.std.proofs.Math.Nat.{mul-le-mul, div-mul-le_self}
use Rattle.fixed_ops.specs.Operations.{op_result, square_root_of}
use Rattle.fixed_ops.specs.Raw.{clamp, floor_div}
use Rattle.fixed_ops.specs.Root.{floor_root}
use Rattle.fixed_ops.specs.declared.operation.Op.{Op}
use Rattle.fixed_ops.specs.declared.operation.Op.TheVariants.{Square, Sqrt, Abs, Floor, Add, Sub, Min, Max}
use Rattle.interval_ops.specs.Shapes.{IsRising, IsEven}
use Rattle.fixed_ops.proofs.ResultLaws.{floor_root_is_root}
use Rattle.fixed_ops.proofs.RoundingLaws.{product_le}

pub clamp_le : (s t : ℤ) → s ≤ℤ t → clamp s ≤ℤ clamp t
clamp_le s t h = omega (arith, ints, clamps)

-- quotients keep the order of dividends
pub div_le : (m n d : ℕ) → m ≤ n → m / suc d ≤ n / suc d
div_le m n d h = le-div (m / suc d) n (suc d) (omega arith) (omega (arith, div-mul-le_self m (suc d)))

-- a greater divisor gives no greater quotient
pub div_ge : (n d e : ℕ) → d ≤ e → n / suc e ≤ n / suc d
div_ge n d e h =
    let q = n / suc e in
    let le : q * suc d ≤ q * suc e =
    mul-le-mul {n₁ = q} {m₁ = suc d} {n₂ = q} {m₂ = suc e} (omega arith) (omega arith) in
    le-div q n (suc d) (omega arith) (omega (arith, le, div-mul-le_self n (suc e)))

pub floor_div_le : (s t : ℤ) (d : ℕ) → s ≤ℤ t → floor_div s (suc d) ≤ℤ floor_div t (suc d)
floor_div_le (pos m) (pos n) d h = omega (arith, ints, div_le m n d (omega (arith, ints)))
floor_div_le (pos m) (negsuc n) d h = absurd (omega (arith, ints, h))
floor_div_le (negsuc m) (pos n) d h = omega (arith, ints)
floor_div_le (negsuc m) (negsuc n) d h = omega (arith, ints, div_le n m d (omega (arith, ints)))

-- raw products keep the order of exact ones
pub rounded_le : (s t : ℤ) → s ≤ℤ t → clamp (floor_div s (2 ^ 32)) ≤ℤ clamp (floor_div t (2 ^ 32))
rounded_le s t h = clamp_le (floor_div s (2 ^ 32)) (floor_div t (2 ^ 32)) (floor_div_le s t (2 ^ 32 - 1) h)

floor_root_le : (m n : ℕ) → m ≤ n → floor_root m ≤ floor_root n
floor_root_le m n h =
    let r = floor_root_is_root m in
    let s = floor_root_is_root n in
    ⊎_elim (λ (lt : floor_root n < floor_root m).
    absurd (omega (
      arith,
      mul-le-mul {n₁ = floor_root n + 1} {m₁ = floor_root n + 1}
          {n₂ = floor_root m} {m₂ = floor_root m} (omega arith) (omega arith),
      r.0,
      s.1,
    )))
    (λ (le : floor_root m ≤ floor_root n). le)
    (cases_lt (floor_root n) (floor_root m))

root_of_le : (a b : ℤ) → a ≤ℤ b → square_root_of a ≤ℤ square_root_of b
root_of_le (pos m) (pos n) h =
    omega (arith, ints, floor_root_le (m * 2 ^ 32) (n * 2 ^ 32) (omega (arith, ints)))
root_of_le (pos m) (negsuc n) h = absurd (omega (arith, ints, h))
root_of_le (negsuc m) (pos n) h = omega (arith, ints)
root_of_le (negsuc m) (negsuc n) h = omega (arith, ints)

-- what rises with each operand does so
pub rises : (op : Op) (u v x y : ℤ) → IsRising op → u ≤ℤ x → v ≤ℤ y
    → op_result op u v ≤ℤ op_result op x y
rises Sqrt u v x y is h k = root_of_le u x h
rises Floor u v x y is h k =
    clamp_le (floor_div u (2 ^ 32) *ℤ pos (2 ^ 32)) (floor_div x (2 ^ 32) *ℤ pos (2 ^ 32))
    (product_le (floor_div u (2 ^ 32)) (floor_div x (2 ^ 32)) (2 ^ 32) (floor_div_le u x (2 ^ 32 - 1) h))
rises Add u v x y is h k = omega (arith, ints, clamps)
rises Min u v x y is h k = omega (arith, ints, clamps)
rises Max u v x y is h k = omega (arith, ints, clamps)
rises op u v x y is h k = absurd is

-- the opposite falls
pub opposite_falls : (u x : ℤ) → u ≤ℤ x → neg_ℤ x ≤ℤ neg_ℤ u
opposite_falls u x h = omega (arith, ints)

-- a difference rises with the first operand and falls with the second
pub difference_rises : (u v x y : ℤ) → u ≤ℤ x → y ≤ℤ v → op_result Sub u v ≤ℤ op_result Sub x y
difference_rises u v x y h k = omega (arith, ints, clamps)

-- products with a number from 0 up keep the order, and those with a number below 0 turn it
pub times_rises : (u v c : ℤ) → pos 0 ≤ℤ c → u ≤ℤ v → (u *ℤ c) ≤ℤ (v *ℤ c)
times_rises u v (pos n) h k = product_le u v n k
times_rises u v (negsuc n) h k = absurd (omega (arith, ints, h))

pub times_falls : (u v c : ℤ) → c ≤ℤ pos 0 → u ≤ℤ v → (v *ℤ c) ≤ℤ (u *ℤ c)
times_falls u v (pos zero) h k = omega (arith, ints)
times_falls u v (pos (suc n)) h k = absurd (omega (arith, ints, h))
times_falls u v (negsuc n) h k = omega (arith, ints, product_le u v (suc n) k)

-- squares of whole numbers rise away from 0
square_rises : (u x : ℤ) → pos 0 ≤ℤ u → u ≤ℤ x → (u *ℤ u) ≤ℤ (x *ℤ x)
square_rises (pos m) (pos n) h k =
    let le : m ≤ n = omega (arith, ints) in
    omega (arith, ints, mul-le-mul le le)
square_rises (pos m) (negsuc n) h k = absurd (omega (arith, ints, k))
square_rises (negsuc m) x h k = absurd (omega (arith, ints, h))

square_falls : (u x : ℤ) → x ≤ℤ pos 0 → u ≤ℤ x → (x *ℤ x) ≤ℤ (u *ℤ u)
square_falls (pos m) (pos n) h k =
    let no : m ≡ 0 = omega (arith, ints, h, k) in
    let none : n ≡ 0 = omega (arith, ints, h) in
    rw (no, none) (omega (arith, ints))
square_falls (pos m) (negsuc n) h k = absurd (omega (arith, ints, k))
square_falls (negsuc m) (pos n) h k =
    let none : n ≡ 0 = omega (arith, ints, h) in
    rw none (omega (arith, ints))
square_falls (negsuc m) (negsuc n) h k =
    let le : suc n ≤ suc m = omega (arith, ints) in
    omega (arith, ints, mul-le-mul le le)

-- what is even rises from 0 up
pub even_rises : (op : Op) (u v x y : ℤ) → IsEven op → pos 0 ≤ℤ u → u ≤ℤ x
    → op_result op u v ≤ℤ op_result op x y
even_rises Square u v x y is h k = rounded_le (u *ℤ u) (x *ℤ x) (square_rises u x h k)
even_rises Abs u v x y is h k = omega (arith, ints, clamps)
even_rises op u v x y is h k = absurd is

-- and falls up to 0
pub even_falls : (op : Op) (u v x y : ℤ) → IsEven op → x ≤ℤ pos 0 → u ≤ℤ x
    → op_result op x y ≤ℤ op_result op u v
even_falls Square u v x y is h k = rounded_le (x *ℤ x) (u *ℤ u) (square_falls u x h k)
even_falls Abs u v x y is h k = omega (arith, ints, clamps)
even_falls op u v x y is h k = absurd is

-- and knows one operand
pub even_alone : (op : Op) (u v w : ℤ) → IsEven op → op_result op u v ≡ op_result op u w
even_alone Square u v w is = refl
even_alone Abs u v w is = refl
even_alone op u v w is = absurd is

-- and is 0 there
pub even_zero : (op : Op) (v : ℤ) → IsEven op → op_result op (pos 0) v ≡ pos 0
even_zero Square v is = refl
even_zero Abs v is = refl
even_zero op v is = absurd is

-- so it is nowhere below 0
pub even_above : (op : Op) (u v : ℤ) → IsEven op → pos 0 ≤ℤ op_result op u v
even_above op (pos n) v is =
    let le = even_rises op (pos 0) v (pos n) v is (omega (arith, ints)) (omega (arith, ints)) in
    let zero_at = even_zero op v is in
    rw zero_at at le
even_above op (negsuc n) v is =
    let le = even_falls op (negsuc n) v (pos 0) v is (omega (arith, ints)) (omega (arith, ints)) in
    let zero_at = even_zero op v is in
    rw zero_at at le

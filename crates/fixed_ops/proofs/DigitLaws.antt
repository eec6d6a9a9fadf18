-- Runs of digits, and the numbers that they spell.
use Rattle.std.proofs.Common.{◌≡◌, ◌+◌, ◌-◌, ◌*◌, ◌/◌, ◌^◌, ◌<◌, ◌≤◌, ℕ, zero, suc, min, List, [], ◌∷◌, ◌++◌, length, take, drop, refl, sym, ap, ◌∙◌, arith, eqb}
use Rattle.std.specs.Prelude.{Bool, true, false, cond, ◌&&◌, nat_lt, nat_le}
use Rattle.std.proofs.Math.Nat.{pow-le-pow_right, mul-le-mul, mul-le-mul_left, mul-le-mul_right, pow-suc}
use Rattle.std.specs.Char.{digit_value, is_ascii_digit}
use Rattle.std.specs.List.{prefix_len}
use Rattle.std.specs.Str.{all_ascii_digits}
use Rattle.std.specs.Str.Parse.{AllDigits, digits_value, digits_value_after}
use Rattle.std.proofs.lemmas.Bool.Decides.{nat_tests}
use Rattle.std.proofs.lemmas.Int.Digits.{digits_value-lt}
use Rattle.std.proofs.lemmas.Str.Parse.{tells_all_ascii_digits, numerals_by_value}
use Rattle.std.proofs.lemmas.Nat.{div-mul-add, pow-add}
use Rattle.std.proofs.lemmas.List.{length-append}
use Rattle.std.proofs.Math.Logic.{⊎_elim}
use Rattle.std.proofs.lemmas.Bool.{and_parts, cases_lt}
use Rattle.std.proofs.Math.Numerals.{one-add}
use Rattle.fixed_ops.specs.Numerals.{front_digits, point_digits, starts_with_point, is_short}
use Rattle.fixed_ops.specs.declared.digits.TheConstants.{TOO_GREAT}

-- the value of a digit
pub digit_value_is : (c : ℕ) → 48 ≤ c → c ≤ 57 → digit_value c ≡ c - 48
digit_value_is c h k = grind (arith, nat_tests)

-- a byte that passes the test of digits has a value below ten
digit_from_test : (c : ℕ) → is_ascii_digit c ≡ true → digit_value c < 10
digit_from_test c h = grind (arith, nat_tests)

-- a power of ten that fits
pub small_power : (k : ℕ) → k < 38 → 10 ^ k < 2 ^ 128
small_power k h =
    let le : k ≤ 37 = omega arith in
    omega (arith, pow-le-pow_right {n = 10} (omega arith) le)

-- many zeros
pub many_zeros : (n k : ℕ) → 0 < n → 38 ≤ k → min (n * 10 ^ k) TOO_GREAT ≡ TOO_GREAT
many_zeros n k h l = omega (arith, mul-le-mul {n₁ = 1} {m₁ = 10 ^ 38} h (pow-le-pow_right {n = 10} (omega arith) l))

-- one step of the comparison of two tests of digits
all_digits_step : (c : ℕ) (cs : List ℕ) (b : Bool) → b ≡ is_ascii_digit c → eqb (prefix_len is_ascii_digit cs) (length cs) ≡ all_ascii_digits cs → eqb (cond b (1 + prefix_len is_ascii_digit cs) 0) (length (c ∷ cs)) ≡ (b && all_ascii_digits cs)
all_digits_step c cs true e h = grind (arith, nat_tests)
all_digits_step c cs false e h = grind (arith, nat_tests)

-- a text is all digits where the digits in front fill it
pub all_digits_is : (ds : List ℕ) → eqb (prefix_len is_ascii_digit ds) (length ds) ≡ all_ascii_digits ds
all_digits_is [] = refl
all_digits_is (c ∷ cs) = all_digits_step c cs (is_ascii_digit c) refl (all_digits_is cs)

-- digits are what their test says
pub digits_from_test : (ds : List ℕ) → all_ascii_digits ds ≡ true → AllDigits 10 ds
digits_from_test ds h = (numerals_by_value _ tells_all_ascii_digits).to ds h

-- one step along the digits in front
front_step : (c : ℕ) (cs : List ℕ) (b : Bool) → b ≡ is_ascii_digit c → AllDigits 10 (front_digits cs) → AllDigits 10 (take (cond b (1 + prefix_len is_ascii_digit cs) 0) (c ∷ cs))
front_step c cs true e h = rw one-add ((digit_from_test c (sym e)), h)
front_step c cs false e h = tt

-- the digits in front are digits
pub front_are_digits : (bs : List ℕ) → AllDigits 10 (front_digits bs)
front_are_digits [] = tt
front_are_digits (c ∷ cs) = front_step c cs (is_ascii_digit c) refl (front_are_digits cs)

-- digits in front of others are digits
pub take_digits : (n : ℕ) (ds : List ℕ) → AllDigits 10 ds → AllDigits 10 (take n ds)
take_digits zero ds h = tt
take_digits (suc n) [] h = tt
take_digits (suc n) (c ∷ cs) h = (h.0, take_digits n cs h.1)

-- digits after others are digits
pub drop_digits : (n : ℕ) (ds : List ℕ) → AllDigits 10 ds → AllDigits 10 (drop n ds)
drop_digits zero ds h = h
drop_digits (suc n) [] h = tt
drop_digits (suc n) (c ∷ cs) h = drop_digits n cs h.1

-- digits and further digits are digits
pub append_digits : (xs ys : List ℕ) → AllDigits 10 xs → AllDigits 10 ys → AllDigits 10 (xs ++ ys)
append_digits [] ys h k = k
append_digits (c ∷ cs) ys h k = (h.0, append_digits cs ys h.1 k)

-- the number of digits that follow those of n
pub number_after_front : (n : ℕ) (ds : List ℕ) → digits_value_after 10 n ds ≡ n * 10 ^ length ds + digits_value 10 ds
number_after_front n [] = omega arith
number_after_front n (c ∷ cs) =
    let left = number_after_front (n * 10 + digit_value c) cs in
    let right = number_after_front (0 * 10 + digit_value c) cs in
    omega (arith, left, right, pow-suc 10 (length cs), ap (λ (x : ℕ). n * x) (pow-suc 10 (length cs)))

-- the number of digits and further digits, after those of n
number_after_append : (n : ℕ) (xs ys : List ℕ) → digits_value_after 10 n (xs ++ ys) ≡ digits_value_after 10 (digits_value_after 10 n xs) ys
number_after_append n [] ys = refl
number_after_append n (c ∷ cs) ys = number_after_append (n * 10 + digit_value c) cs ys

-- the number of digits and further digits
pub number_append : (xs ys : List ℕ) → digits_value 10 (xs ++ ys) ≡ digits_value 10 xs * 10 ^ length ys + digits_value 10 ys
number_append xs ys = number_after_append 0 xs ys ∙ number_after_front (digits_value 10 xs) ys

-- the number of the digits in front of k others
pub number_take : (xs ys : List ℕ) → AllDigits 10 ys → digits_value 10 (xs ++ ys) / 10 ^ length ys ≡ digits_value 10 xs
number_take xs ys h = ap (λ (x : ℕ). x / 10 ^ length ys) (number_append xs ys) ∙ div-mul-add (digits_value 10 xs) (10 ^ length ys) (digits_value 10 ys) (digits_value-lt 10 ys h)

-- a short run is digits, at most so many
pub short_is : (most : ℕ) (ds : List ℕ) → is_short most ds ≡ true → AllDigits 10 ds × (length ds ≤ most)
short_is most ds h =
    let rest = and_parts (nat_lt 0 (length ds)) (nat_le (length ds) most && all_ascii_digits ds) h in
    let last = and_parts (nat_le (length ds) most) (all_ascii_digits ds) rest.1 in
    let few = last.0 in
    (digits_from_test ds last.1, grind (arith, nat_tests))

-- what a short run spells is below that power of ten
pub short_below : (most : ℕ) (ds : List ℕ) → is_short most ds ≡ true → digits_value 10 ds < 10 ^ most
short_below most ds h =
    let short = short_is most ds h in
    omega (arith, digits_value-lt 10 ds short.0, pow-le-pow_right {n = 10} (omega arith) short.1)

-- a number cut off at a bound, and further digits after it
pub after_cut : (n p v most : ℕ) → 0 < p → min (min n most * p + v) most ≡ min (n * p + v) most
after_cut n p v most some =
    ⊎_elim (λ (lt : n < most). let e : min n most ≡ n = omega arith in rw e refl)
    (λ (le : most ≤ n).
    let e : min n most ≡ most = omega arith in
    let first : most * 1 ≤ most * p = mul-le-mul_left most some in
    let second : most * p ≤ n * p = mul-le-mul_right p le in
    rw e (omega arith))
    (cases_lt n most)

-- the number of a run of digits after others, and of the digits after it
pub run_step : (number : ℕ) (xs ys : List ℕ) (most : ℕ) → min (min (number * 10 ^ length xs + digits_value 10 xs) most * 10 ^ length ys + digits_value 10 ys) most ≡ min (number * 10 ^ length (xs ++ ys) + digits_value 10 (xs ++ ys)) most
run_step number xs ys most =
    let some : 10 ^ 0 ≤ 10 ^ length ys = pow-le-pow_right {n = 10} (omega arith) {i = 0} (omega arith) in
    let cut = after_cut (number * 10 ^ length xs + digits_value 10 xs) (10 ^ length ys) (digits_value 10 ys) most (omega arith) in
    let power : number * 10 ^ length (xs ++ ys) ≡ number * (10 ^ length xs * 10 ^ length ys) = rw (length-append xs ys, pow-add 10 (length xs) (length ys)) refl in
    omega (arith, cut, power, number_append xs ys)

-- a choice of digits or none is digits
chosen_digits : (b : Bool) (ds : List ℕ) → AllDigits 10 ds → AllDigits 10 (cond b ds [])
chosen_digits true ds h = h
chosen_digits false ds h = tt

-- the digits after a point are digits
pub point_are_digits : (bs : List ℕ) → AllDigits 10 (point_digits bs)
point_are_digits bs = chosen_digits (starts_with_point bs) (front_digits (drop 1 bs)) (front_are_digits (drop 1 bs))

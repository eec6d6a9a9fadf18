-- What the magnitude of a numeral comes to.
use Rattle.std.proofs.Common.{List, ap, append_assoc, arith, drop, length, length-drop, length-take, min, refl, subst, suc, sym, take, zero, ℕ, ⊎_elim, ◌*◌, ◌++◌, ◌+◌, ◌-◌, ◌/◌, ◌<◌, ◌^◌, ◌∙◌, ◌≡◌, ◌≤◌}
use Rattle.std.proofs.Math.Nat.{pow-le-pow_right, mul-le-mul_left, mul-le-mul_right, mul-div-mul_right, mul-div_cancel, mul-add-div_right, div-div-eq-div-mul, le_of_lt}
use Rattle.std.proofs.lemmas.Bool.{cases_lt}
use Rattle.std.proofs.lemmas.List.{take-append-drop}
use Rattle.std.proofs.lemmas.Int.Digits.{digits_value-lt}
use Rattle.std.proofs.lemmas.Nat.{pow-add, pow_pos, mul-pow, div_below}
use Rattle.std.specs.Prelude.{ℤ, pos, negsuc, neg_ℤ, ◌+ℤ◌, ◌-ℤ◌, ◌≤ℤ◌, ◌<ℤ◌, unsigned_abs, Bool, true, false, nat_lt, cond, Some, None}
use Rattle.std.specs.Str.Parse.{AllDigits, digits_value, signed_digits_value, starts_with_minus, without_leading_sign}
use Rattle.std.proofs.lemmas.Int.{ints}
use Rattle.fixed_ops.specs.Numerals.{cut_magnitude, exponent_part, fraction_part, is_exponent, is_numeral, is_unsigned_numeral, nearest_raw, numeral, times_power, unsigned_raw, whole_part, with_sign}
use Rattle.fixed_ops.specs.declared.digits.TheConstants.{TOO_GREAT}
use Rattle.fixed_ops.proofs.DigitLaws.{number_append, number_take, drop_digits}
use Rattle.fixed_ops.specs.Raw.{IsRaw}

-- a power of ten is not 0
pub ten_power : (k : ℕ) → 0 < 10 ^ k
ten_power k =
    let some : 0 ≤ k = omega arith in
    omega (arith, pow-le-pow_right {n = 10} (omega arith) some)

-- a number of units and a rest are near to what the units and the rest are near to
pub nearest_split : (w r : ℕ) → r < 10 ^ 28 → min (w * 2 ^ 32 + (2 * r * 2 ^ 32 + 10 ^ 28) / (2 * 10 ^ 28)) (2 ^ 62 - 1) ≡ nearest_raw (w * 10 ^ 28 + r)
unfolding nearest_raw
nearest_split w r h = omega arith

-- a number by a power of ten upwards
times_power_up : (n : ℕ) (k : ℤ) (j : ℕ) → k ≡ pos j → times_power n k ≡ n * 10 ^ j
times_power_up n k j e = ap (times_power n) e

-- a number by a power of ten downwards
times_power_down : (n : ℕ) (k : ℤ) (j : ℕ) → k ≡ neg_ℤ (pos j) → times_power n k ≡ n / 10 ^ j
times_power_down n k zero e = ap (times_power n) e ∙ omega arith
times_power_down n k (suc j) e = ap (times_power n) e

-- a magnitude without its last whole digits
pub cut_down : (whole fraction : List ℕ) (e : ℤ) (m : ℕ) → AllDigits 10 fraction → e +ℤ pos 28 ≡ neg_ℤ (pos m) → cut_magnitude whole fraction e ≡ digits_value 10 whole / 10 ^ m
unfolding cut_magnitude
cut_down whole fraction e m h k =
    let f = length fraction in
    let v = digits_value 10 (whole ++ fraction) in
    let power : e -ℤ pos f +ℤ pos 28 ≡ neg_ℤ (pos (f + m)) = omega (arith, ints) in
    times_power_down v (e -ℤ pos f +ℤ pos 28) (f + m) power ∙ ap (λ (x : ℕ). v / x) (pow-add 10 f m) ∙ sym (div-div-eq-div-mul v (10 ^ f) (10 ^ m)) ∙ ap (λ (x : ℕ). x / 10 ^ m) (number_take whole fraction h)

-- powers of ten that cancel, downwards
scale_down : (v p f : ℕ) → p ≤ f → v * 10 ^ p / 10 ^ f ≡ v / 10 ^ (f - p)
scale_down v p f h =
    let parts : f ≡ (f - p) + p = omega arith in
    ap (λ (x : ℕ). v * 10 ^ p / 10 ^ x) parts ∙ ap (λ (x : ℕ). v * 10 ^ p / x) (pow-add 10 (f - p) p) ∙ mul-div-mul_right {m = 10 ^ p} v (10 ^ (f - p)) (ten_power p)

-- powers of ten that cancel, upwards
scale_up : (v p f : ℕ) → f ≤ p → v * 10 ^ p / 10 ^ f ≡ v * 10 ^ (p - f)
scale_up v p f h =
    let parts : p ≡ (p - f) + f = omega arith in
    let power : 10 ^ p ≡ 10 ^ (p - f) * 10 ^ f = ap (λ (x : ℕ). 10 ^ x) parts ∙ pow-add 10 (p - f) f in
    let factors : v * 10 ^ p ≡ v * 10 ^ (p - f) * 10 ^ f = ap (λ (x : ℕ). v * x) power ∙ omega arith in
    ap (λ (x : ℕ). x / 10 ^ f) factors ∙ mul-div_cancel (v * 10 ^ (p - f)) (ten_power f)

-- a magnitude with p digits after the point
pub cut_up : (whole fraction : List ℕ) (e : ℤ) (p : ℕ) → e +ℤ pos 28 ≡ pos p → cut_magnitude whole fraction e ≡ digits_value 10 (whole ++ fraction) * 10 ^ p / 10 ^ length fraction
unfolding cut_magnitude
cut_up whole fraction e p k =
    let f = length fraction in
    let v = digits_value 10 (whole ++ fraction) in
    let z = e -ℤ pos f +ℤ pos 28 in
    ⊎_elim (λ (lt : p < f). let power : z ≡ neg_ℤ (pos (f - p)) = omega (arith, ints) in
    times_power_down v z (f - p) power ∙ sym (scale_down v p f (omega arith)))
    (λ (le : f ≤ p). let power : z ≡ pos (p - f) = omega (arith, ints) in
    times_power_up v z (p - f) power ∙ sym (scale_up v p f le))
    (cases_lt p f)

-- a number below a bound, and then more of it, below the bound
pub capped : (x k d t : ℕ) → 1 ≤ k → min (min x t * k + d) t ≡ min (x * k + d) t
capped x k d t h =
    ⊎_elim (λ (lt : x < t). let e : min x t ≡ x = omega arith in rw e refl)
    (λ (le : t ≤ x). let e : min x t ≡ t = omega arith in rw e (omega (arith, mul-le-mul_right k le, mul-le-mul_left t h)))
    (cases_lt x t)

-- the digits of a number down to some place
pub taken_places : (whole fraction : List ℕ) (p : ℕ) → AllDigits 10 fraction → p < length fraction → digits_value 10 (whole ++ fraction) * 10 ^ p / 10 ^ length fraction ≡ digits_value 10 whole * 10 ^ p + digits_value 10 (take p fraction)
taken_places whole fraction p h l =
    let front = take p fraction in
    let back = drop p fraction in
    let behind : length back ≡ length fraction - p = length-drop p fraction in
    let before : length front ≡ p = length-take p fraction ∙ omega arith in
    let split : whole ++ fraction ≡ (whole ++ front) ++ back = ap (λ (x : List ℕ). whole ++ x) (sym (take-append-drop p fraction)) ∙ sym (append_assoc whole front back) in
    let cut : digits_value 10 (whole ++ fraction) / 10 ^ length back ≡ digits_value 10 (whole ++ front) = ap (λ (x : List ℕ). digits_value 10 x / 10 ^ length back) split ∙ number_take (whole ++ front) back (drop_digits p fraction h) in
    scale_down (digits_value 10 (whole ++ fraction)) p (length fraction) (omega arith) ∙ ap (λ (x : ℕ). digits_value 10 (whole ++ fraction) / 10 ^ x) (sym behind) ∙ cut ∙ number_append whole front ∙ ap (λ (x : ℕ). digits_value 10 whole * 10 ^ x + digits_value 10 front) before

-- a number with zeros after its digits
pub more_places : (whole fraction : List ℕ) (p : ℕ) → length fraction ≤ p → digits_value 10 (whole ++ fraction) * 10 ^ p / 10 ^ length fraction ≡ (digits_value 10 whole * 10 ^ length fraction + digits_value 10 fraction) * 10 ^ (p - length fraction)
more_places whole fraction p l =
    scale_up (digits_value 10 (whole ++ fraction)) p (length fraction) l ∙ ap (λ (x : ℕ). x * 10 ^ (p - length fraction)) (number_append whole fraction)

-- a number without so many of its last digits
pub dropped_places : (ds : List ℕ) (m : ℕ) → AllDigits 10 ds → digits_value 10 ds / 10 ^ m ≡ digits_value 10 (take (length ds - m) ds)
dropped_places ds m h =
    let n = length ds in
    let front = take (n - m) ds in
    let back = drop (n - m) ds in
    ⊎_elim (λ (lt : n < m). let none : n - m ≡ 0 = omega arith in
    let small : digits_value 10 ds < 1 * 10 ^ m = omega (arith, digits_value-lt 10 ds h, pow-le-pow_right {n = 10} (omega arith) (le_of_lt lt)) in
    rw none (omega (arith, div_below (digits_value 10 ds) (10 ^ m) 1 (ten_power m) small)))
    (λ (le : m ≤ n). let behind : length back ≡ m = length-drop (n - m) ds ∙ omega arith in
    ap (λ (x : ℕ). digits_value 10 ds / 10 ^ x) (sym behind) ∙ ap (λ (x : List ℕ). digits_value 10 x / 10 ^ length back) (sym (take-append-drop (n - m) ds)) ∙ number_take front back (drop_digits (n - m) ds h))
    (cases_lt n m)

-- the whole digits, and then some digits after the point, each time below a bound
pub cut_inside : (whole fraction : List ℕ) (p number r t : ℕ) → AllDigits 10 fraction → p < length fraction → number ≡ min (0 * 10 ^ length whole + digits_value 10 whole) t → r ≡ min (number * 10 ^ length (take p fraction) + digits_value 10 (take p fraction)) t → r ≡ min (digits_value 10 (whole ++ fraction) * 10 ^ p / 10 ^ length fraction) t
cut_inside whole fraction p number r t h l first second =
    let front : length (take p fraction) ≡ p = length-take p fraction ∙ omega arith in
    let some : 1 ≤ 10 ^ p = ten_power p in
    let start : number ≡ min (digits_value 10 whole) t = first ∙ omega arith in
    let next : r ≡ min (min (digits_value 10 whole) t * 10 ^ p + digits_value 10 (take p fraction)) t = rw (front, start) at second in
    next ∙ capped (digits_value 10 whole) (10 ^ p) (digits_value 10 (take p fraction)) t some ∙ ap (λ (x : ℕ). min x t) (sym (taken_places whole fraction p h l))

-- all digits, and then zeros, each time below a bound
pub cut_beyond : (whole fraction : List ℕ) (p number all r t : ℕ) → length fraction ≤ p → number ≡ min (0 * 10 ^ length whole + digits_value 10 whole) t → all ≡ min (number * 10 ^ length fraction + digits_value 10 fraction) t → r ≡ min (all * 10 ^ (p - length fraction)) t → r ≡ min (digits_value 10 (whole ++ fraction) * 10 ^ p / 10 ^ length fraction) t
cut_beyond whole fraction p number all r t l first second third =
    let f = length fraction in
    let v = digits_value 10 whole * 10 ^ f + digits_value 10 fraction in
    let start : number ≡ min (digits_value 10 whole) t = first ∙ omega arith in
    let next : all ≡ min v t = rw start at second ∙ capped (digits_value 10 whole) (10 ^ f) (digits_value 10 fraction) t (ten_power f) in
    let last : r ≡ min (min v t * 10 ^ (p - f) + 0) t = rw next at third ∙ omega arith in
    last ∙ capped v (10 ^ (p - f)) 0 t (ten_power (p - f)) ∙ omega (arith, more_places whole fraction p l)

-- a number at or above 0 is its size
pub size_at_least_zero : (z : ℤ) → pos 0 ≤ℤ z → z ≡ pos (unsigned_abs z)
size_at_least_zero (pos n) h = refl
size_at_least_zero (negsuc n) h = absurd (omega (arith, ints, h))

-- a number below 0 is its size turned
pub size_below_zero : (z : ℤ) → z <ℤ pos 0 → z ≡ neg_ℤ (pos (unsigned_abs z))
size_below_zero (pos n) h = absurd (omega (arith, ints, h))
size_below_zero (negsuc n) h = refl

-- where there is no digit, there is no numeral
pub no_digit : (text whole fraction : List ℕ) → whole ≡ whole_part text → fraction ≡ fraction_part text → nat_lt 0 (length (whole ++ fraction)) ≡ false → is_unsigned_numeral text ≡ false
unfolding is_unsigned_numeral
no_digit text whole fraction w f h =
    let none : nat_lt 0 (length (whole_part text ++ fraction_part text)) ≡ false = rw (w, f) at h in
    rw none refl

-- where there is a digit, the rest decides
pub some_digit : (text whole fraction tail : List ℕ) → whole ≡ whole_part text → fraction ≡ fraction_part text → tail ≡ exponent_part text → nat_lt 0 (length (whole ++ fraction)) ≡ true → is_unsigned_numeral text ≡ is_exponent tail
unfolding is_unsigned_numeral
some_digit text whole fraction tail w f t h =
    let some : nat_lt 0 (length (whole_part text ++ fraction_part text)) ≡ true = rw (w, f) at h in
    rw (some, t) refl

-- the raw number of a numeral by its parts
pub raw_by_parts : (text whole fraction tail : List ℕ) (e : ℤ) → whole ≡ whole_part text → fraction ≡ fraction_part text → tail ≡ exponent_part text → e ≡ signed_digits_value 10 (drop 1 tail) → nearest_raw (cut_magnitude whole fraction e) ≡ unsigned_raw text
unfolding unsigned_raw
raw_by_parts text whole fraction tail e w f t h = rw (w, f, h, t) refl

-- what is too great gives the greatest raw number
pub nearest_capped : (x : ℕ) → nearest_raw (min x TOO_GREAT) ≡ nearest_raw x
unfolding nearest_raw
nearest_capped x =
    ⊎_elim (λ (lt : x < TOO_GREAT). let e : min x TOO_GREAT ≡ x = omega arith in rw e refl)
    (λ (le : TOO_GREAT ≤ x). let e : min x TOO_GREAT ≡ TOO_GREAT = omega arith in rw e (omega arith))
    (cases_lt x TOO_GREAT)

-- a choice that is none
pub chosen_none : {A : Type 0} → (b : Bool) (y : A) → cond b (Some y) None ≡ None → b ≡ false
chosen_none true y h = cc
chosen_none false y h = refl

-- the raw number of v with f digits after the point
short_nearest : (v f : ℕ) → f ≤ 28 → nearest_raw (v * 10 ^ (28 - f)) ≡ min ((2 * v * 2 ^ 32 + 10 ^ f) / (2 * 10 ^ f)) (2 ^ 62 - 1)
unfolding nearest_raw
short_nearest v f h =
    let k = 10 ^ (28 - f) in
    let t = 10 ^ f in
    let all : (28 - f) + f ≡ 28 = omega arith in
    let units : k * t ≡ 10 ^ 28 = sym (pow-add 10 (28 - f) f) ∙ ap (λ (x : ℕ). 10 ^ x) all in
    let above : 2 * (v * k) * 2 ^ 32 + 10 ^ 28 ≡ (2 * v * 2 ^ 32 + t) * k = omega (arith, units) in
    let below : 2 * 10 ^ 28 ≡ 2 * t * k = omega (arith, units) in
    let same : (2 * (v * k) * 2 ^ 32 + 10 ^ 28) / (2 * 10 ^ 28) ≡ (2 * v * 2 ^ 32 + t) / (2 * t) = ap (λ (x : ℕ). x / (2 * 10 ^ 28)) above ∙ ap (λ (x : ℕ). (2 * v * 2 ^ 32 + t) * k / x) below ∙ mul-div-mul_right (2 * v * 2 ^ 32 + t) (2 * t) (ten_power (28 - f)) in
    ap (λ (x : ℕ). min x (2 ^ 62 - 1)) same

-- the whole part of it, and the part below the point
short_parts : (w r f : ℕ) → (2 * (w * 10 ^ f + r) * 2 ^ 32 + 10 ^ f) / (2 * 10 ^ f) ≡ w * 2 ^ 32 + (2 * r * 2 ^ 32 + 10 ^ f) / (2 * 10 ^ f)
short_parts w r f =
    let t = 10 ^ f in
    let positive : 0 < 2 * t = omega (arith, ten_power f) in
    let split : 2 * (w * t + r) * 2 ^ 32 + t ≡ (w * 2 ^ 32) * (2 * t) + (2 * r * 2 ^ 32 + t) = omega arith in
    ap (λ (x : ℕ). x / (2 * t)) split ∙ mul-add-div_right positive (w * 2 ^ 32) (2 * r * 2 ^ 32 + t)

-- what a fraction of few digits comes to, with the powers of two cancelled
pub fraction_fives : (r f : ℕ) → f ≤ 33 → (2 * r * 2 ^ 32 + 10 ^ f) / (2 * 10 ^ f) ≡ (r * 2 ^ (33 - f) + 5 ^ f) / (2 * 5 ^ f)
fraction_fives r f h =
    let p = 2 ^ (33 - f) in
    let twos = 2 ^ f in
    let fives = 5 ^ f in
    let ten : 10 ^ f ≡ fives * twos = mul-pow 5 2 f in
    let all : (33 - f) + f ≡ 33 = omega arith in
    let two : p * twos ≡ 2 ^ 33 = sym (pow-add 2 (33 - f) f) ∙ ap (λ (x : ℕ). 2 ^ x) all in
    let scaled : r * (p * twos) ≡ r * 2 ^ 33 = ap (λ (x : ℕ). r * x) two in
    let above : 2 * r * 2 ^ 32 + 10 ^ f ≡ (r * p + fives) * twos = omega (arith, ten, scaled) in
    let below : 2 * 10 ^ f ≡ 2 * fives * twos = omega (arith, ten) in
    ap (λ (x : ℕ). x / (2 * 10 ^ f)) above ∙ ap (λ (x : ℕ). (r * p + fives) * twos / x) below ∙ mul-div-mul_right (r * p + fives) (2 * fives) (pow_pos f)

-- few digits, their fives and their twos fit
pub fraction_fits : (ds : List ℕ) → AllDigits 10 ds → length ds ≤ 13 → (0 < 5 ^ length ds) × (5 ^ length ds ≤ 5 ^ 13) × (digits_value 10 ds * 2 ^ (33 - length ds) ≤ 5 ^ length ds * 2 ^ 33)
fraction_fits ds h l =
    let f = length ds in
    let p = 2 ^ (33 - f) in
    let none : 0 ≤ f = omega arith in
    let ten : 10 ^ f ≡ 5 ^ f * 2 ^ f = mul-pow 5 2 f in
    let all : (33 - f) + f ≡ 33 = omega arith in
    let two : p * 2 ^ f ≡ 2 ^ 33 = sym (pow-add 2 (33 - f) f) ∙ ap (λ (x : ℕ). 2 ^ x) all in
    let less : digits_value 10 ds ≤ 10 ^ f = le_of_lt (digits_value-lt 10 ds h) in
    let scaled = mul-le-mul_right p less in
    let fives : 5 ^ f * (p * 2 ^ f) ≡ 5 ^ f * 2 ^ 33 = ap (λ (x : ℕ). 5 ^ f * x) two in
    let tens : 10 ^ f * p ≡ 5 ^ f * 2 ^ f * p = ap (λ (x : ℕ). x * p) ten in
    (omega (arith, pow-le-pow_right {n = 5} (omega arith) none), pow-le-pow_right {n = 5} (omega arith) l, omega (arith, scaled, fives, tens))

-- the raw number of few digits without an exponent
pub short_size_is : (whole fraction : List ℕ) → length fraction ≤ 28 → nearest_raw (cut_magnitude whole fraction (pos 0)) ≡ min (digits_value 10 whole * 2 ^ 32 + (2 * digits_value 10 fraction * 2 ^ 32 + 10 ^ length fraction) / (2 * 10 ^ length fraction)) (2 ^ 62 - 1)
short_size_is whole fraction h =
    let f = length fraction in
    let v = digits_value 10 (whole ++ fraction) in
    let cut : cut_magnitude whole fraction (pos 0) ≡ v * 10 ^ (28 - f) = cut_up whole fraction (pos 0) 28 refl ∙ scale_up v 28 f h in
    ap nearest_raw cut ∙ short_nearest v f h ∙ ap (λ (x : ℕ). min ((2 * x * 2 ^ 32 + 10 ^ f) / (2 * 10 ^ f)) (2 ^ 62 - 1)) (number_append whole fraction) ∙ ap (λ (x : ℕ). min x (2 ^ 62 - 1)) (short_parts (digits_value 10 whole) (digits_value 10 fraction) f)

-- ---- numerals are raw numbers

-- what a magnitude is nearest to is no greater than the greatest raw number
pub nearest_is_small : (q : ℕ) → nearest_raw q ≤ 2 ^ 62 - 1
unfolding nearest_raw
nearest_is_small q = omega arith

-- nor is what a numeral without its sign is nearest to
pub unsigned_is_small : (body : List ℕ) → unsigned_raw body ≤ 2 ^ 62 - 1
unfolding unsigned_raw
unsigned_is_small body = nearest_is_small _

-- with a sign it is a raw number
pub signed_is_raw : (minus : Bool) (size : ℕ) → size ≤ 2 ^ 62 - 1 → IsRaw (with_sign minus size)
signed_is_raw true size few = (omega (arith, ints, few), omega (arith, ints, few))
signed_is_raw false size few = (omega (arith, ints, few), omega (arith, ints, few))

-- so what a numeral means is one
pub numeral_is_raw : (text : List ℕ) (v : ℤ) → numeral text ≡ Some v → IsRaw v
numeral_is_raw text v e = by (is_numeral text) e
  where
    size : ℕ
    size = unsigned_raw (without_leading_sign text)

    by : (t : Bool) → cond t (Some (with_sign (starts_with_minus text) size)) None ≡ Some v → IsRaw v
    by true same =
        let is : with_sign (starts_with_minus text) size ≡ v = cc in
        subst IsRaw is (signed_is_raw (starts_with_minus text) size (unsigned_is_small (without_leading_sign text)))
    by false same = absurd cc

-- The text of a raw number is a numeral that means it.
use Rattle.std.proofs.Common.{◌≡◌, ◌+◌, ◌-◌, ◌*◌, ◌/◌, ◌%◌, ◌^◌, ◌<◌, ◌≤◌, ℕ, zero, suc, List, [], ◌∷◌, ◌++◌, length, replicate, refl, sym, ap, ◌∙◌, arith, length-append, eqb}
use Rattle.std.specs.Prelude.{ℤ, pos, negsuc, true, false, Some, nat_lt, decimal}
use Rattle.std.specs.Char.{digit_value, is_ascii_digit}
use Rattle.std.specs.List.{prefix_len}
use Rattle.std.specs.Str.Parse.{AllDigits, digits_value, starts_with_minus, without_leading_sign}
use Rattle.std.proofs.Math.Seq.{take-append_seam, drop-append_seam}
use Rattle.std.proofs.lemmas.Bool.Decides.{nat_tests}
use Rattle.std.proofs.lemmas.Fmt.{decimal_is_IsNumeral, length-decimal-le}
use Rattle.std.proofs.lemmas.Str.Parse.{digit_from_value}
use Rattle.std.proofs.lemmas.Int.{ints}
use Rattle.std.proofs.lemmas.List.{take_all, drop_all, length-replicate}
use Rattle.fixed_ops.specs.NumberTexts.{zero_padded, size_text, number_text}
use Rattle.fixed_ops.specs.Numerals.{after_digits, whole_part, fraction_part, exponent_part, cut_magnitude, nearest_raw, numeral, is_unsigned_numeral, unsigned_raw}
use Rattle.fixed_ops.specs.Raw.{IsRaw}
use Rattle.fixed_ops.proofs.DigitLaws.{number_append, append_digits}
use Rattle.fixed_ops.proofs.NumeralLaws.{some_digit, raw_by_parts}

-- a digit passes the test of digits
pub passes : (c : ℕ) → digit_value c < 10 → is_ascii_digit c ≡ true
passes c h =
    let r = digit_from_value c h in
    grind (arith, nat_tests)

-- digits, and then something else
pub front_length : (ds : List ℕ) (c : ℕ) (cs : List ℕ) → AllDigits 10 ds → is_ascii_digit c ≡ false → prefix_len is_ascii_digit (ds ++ c ∷ cs) ≡ length ds
front_length [] c cs h e = rw e refl
front_length (d ∷ ds) c cs h e = rw (passes d h.0) (omega (arith, front_length ds c cs h.1 e))

-- nothing but digits
pub all_length : (ds : List ℕ) → AllDigits 10 ds → prefix_len is_ascii_digit ds ≡ length ds
all_length [] h = refl
all_length (d ∷ ds) h = rw (passes d h.0) (omega (arith, all_length ds h.1))

-- zeros are digits
zeros_are_digits : (k : ℕ) → AllDigits 10 (replicate k 48)
zeros_are_digits zero = tt
zeros_are_digits (suc k) = (omega arith, zeros_are_digits k)

-- zeros spell 0
zeros_value : (k : ℕ) → digits_value 10 (replicate k 48) ≡ 0
zeros_value zero = refl
zeros_value (suc k) = zeros_value k

-- the padded digits of n
padded_digits : (k n : ℕ) → n < 2 ^ 64 → AllDigits 10 (zero_padded k n) × (digits_value 10 (zero_padded k n) ≡ n)
padded_digits k n h =
    let d = decimal_is_IsNumeral n h in
    let zeros = replicate (k - length (decimal n)) 48 in
    (append_digits zeros (decimal n) (zeros_are_digits (k - length (decimal n))) d.0.1, number_append zeros (decimal n) ∙ rw (zeros_value (k - length (decimal n)), d.1) (omega arith))

-- ten digits are ten
pub ten_short : (n : ℕ) → n < 10 ^ 10 → length (decimal n) ≤ 10
ten_short n h = length-decimal-le 10 n (omega arith) h (omega arith)

-- padded to ten digits is ten digits
pub ten_padded : (n : ℕ) → n < 10 ^ 10 → length (zero_padded 10 n) ≡ 10
ten_padded n h = length-append (replicate (10 - length (decimal n)) 48) (decimal n) ∙ omega (arith, length-replicate {A = ℕ} (10 - length (decimal n)) 48, ten_short n h)

-- a whole number, a point, and decimals
pub pointed_number : (whole fraction : List ℕ) → AllDigits 10 whole → AllDigits 10 fraction → 0 < length whole → (is_unsigned_numeral (whole ++ 46 ∷ fraction) ≡ true) × (unsigned_raw (whole ++ 46 ∷ fraction) ≡ nearest_raw (cut_magnitude whole fraction (pos 0)))
pointed_number whole fraction w f some =
    let text = whole ++ 46 ∷ fraction in
    let front = front_length whole 46 fraction w refl in
    let all = all_length fraction f in
    let is_whole : whole ≡ whole_part text = rw front (sym (take-append_seam whole (46 ∷ fraction))) in
    let rest : after_digits text ≡ 46 ∷ fraction = rw front (drop-append_seam whole (46 ∷ fraction)) in
    let is_fraction : fraction ≡ fraction_part text = rw (rest, all) (sym (take_all (length fraction) fraction (omega arith))) in
    let is_tail : [] ≡ exponent_part text = rw (rest, all) (sym (drop_all (length fraction) fraction (omega arith))) in
    let has : nat_lt 0 (length (whole ++ fraction)) ≡ true = rw (length-append whole fraction) (grind (arith, nat_tests)) in
    (some_digit text whole fraction [] is_whole is_fraction is_tail has, sym (raw_by_parts text whole fraction [] (pos 0) is_whole is_fraction is_tail refl))

-- a number with ten decimals, in units of 10^-28
ten_cut : (whole fraction : List ℕ) → length fraction ≡ 10 → cut_magnitude whole fraction (pos 0) ≡ digits_value 10 (whole ++ fraction) * 10 ^ 18
unfolding cut_magnitude
ten_cut whole fraction h = rw h refl

-- ten decimals cut towards zero are near enough to the number
ten_decimals : (n : ℕ) → n < 2 ^ 62 → nearest_raw ((n / 2 ^ 32 * 10 ^ 10 + n % 2 ^ 32 * 10 ^ 10 / 2 ^ 32) * 10 ^ 18) ≡ n
unfolding nearest_raw
ten_decimals n h = omega arith

-- the text of a size is a numeral that means it
pub size_text_reads : (n : ℕ) → n < 2 ^ 62 → (is_unsigned_numeral (size_text n) ≡ true) × (unsigned_raw (size_text n) ≡ n)
unfolding size_text
size_text_reads n h =
    let w = n / 2 ^ 32 in
    let d = n % 2 ^ 32 * 10 ^ 10 / 2 ^ 32 in
    let whole = decimal_is_IsNumeral w (omega arith) in
    let few : d < 10 ^ 10 = omega arith in
    let decimals = padded_digits 10 d (omega arith) in
    let ten = ten_padded d few in
    let reads = pointed_number (decimal w) (zero_padded 10 d) whole.0.1 decimals.0 whole.0.0 in
    let value : digits_value 10 (decimal w ++ zero_padded 10 d) ≡ w * 10 ^ 10 + d = number_append (decimal w) (zero_padded 10 d) ∙ rw (ten, whole.1, decimals.1) refl in
    let cut : cut_magnitude (decimal w) (zero_padded 10 d) (pos 0) ≡ (w * 10 ^ 10 + d) * 10 ^ 18 = ten_cut (decimal w) (zero_padded 10 d) ten ∙ ap (λ (x : ℕ). x * 10 ^ 18) value in
    (reads.0, reads.1 ∙ ap nearest_raw cut ∙ ten_decimals n h)

-- digits in front are no sign
pub digit_first : (ds cs : List ℕ) → AllDigits 10 ds → 0 < length ds → (starts_with_minus (ds ++ cs) ≡ false) × (without_leading_sign (ds ++ cs) ≡ ds ++ cs)
digit_first [] cs h k = absurd (omega (arith, k))
digit_first (d ∷ ds) cs h k =
    let r = digit_from_value d h.0 in
    let no_minus : eqb d 45 ≡ false = grind (arith, nat_tests) in
    let no_plus : eqb d 43 ≡ false = grind (arith, nat_tests) in
    (no_minus, rw (no_minus, no_plus) refl)

-- the text of a size has no sign
size_text_unsigned : (n : ℕ) → n < 2 ^ 62 → (starts_with_minus (size_text n) ≡ false) × (without_leading_sign (size_text n) ≡ size_text n)
unfolding size_text
size_text_unsigned n h =
    let whole = decimal_is_IsNumeral (n / 2 ^ 32) (omega arith) in
    digit_first (decimal (n / 2 ^ 32)) (46 ∷ zero_padded 10 (n % 2 ^ 32 * 10 ^ 10 / 2 ^ 32)) whole.0.1 whole.0.0

-- the text of a raw number is a numeral that means it
pub number_text_reads : (v : ℤ) → IsRaw v → numeral (number_text v) ≡ Some v
number_text_reads (pos n) h =
    let small : n < 2 ^ 62 = omega (arith, ints, h) in
    let reads = size_text_reads n small in
    let unsigned = size_text_unsigned n small in
    rw (unsigned.1, unsigned.0, reads.0, reads.1) refl
number_text_reads (negsuc n) h =
    let small : suc n < 2 ^ 62 = omega (arith, ints, h) in
    let reads = size_text_reads (suc n) small in
    rw (reads.0, reads.1) refl

-- texts of different raw numbers differ
pub number_text_tells : (v w : ℤ) → IsRaw v → IsRaw w → number_text w ≡ number_text v → w ≡ v
number_text_tells v w h k e =
    let one = number_text_reads v h in
    let other = number_text_reads w k in
    let same : numeral (number_text w) ≡ numeral (number_text v) = ap numeral e in
    cc

-- the whole part has at most ten digits
pub whole_short : (n : ℕ) → n < 2 ^ 62 → length (decimal (n / 2 ^ 32)) ≤ 10
whole_short n h = ten_short (n / 2 ^ 32) (omega arith)

use Rattle.std.proofs.Common.{◌≡◌, arith, refl, sym, ap, ◌∙◌, true, false, drop, to_z, of_z, w32, w64}
use Rattle.std.specs.Prelude.{pos}
use Rattle.std.specs.Str.Parse.{signed_digits_value}
use Rattle.std.proofs.lemmas.Int.{ints, to_z-of_z, fits_signed_from_abs}
use Rattle.fixed_ops.specs.Numerals.{is_exponent, is_unsigned_numeral, unsigned_raw}
use Rattle.fixed_ops.proofs.DigitLaws.{front_are_digits, point_are_digits}
use Rattle.fixed_ops.proofs.NumeralLaws.{no_digit, some_digit, raw_by_parts, chosen_none}
use Rattle.std.proofs.lemmas.Option.{cond_some}
use Rattle.fixed_ops.proofs.numeral.read_unsigned.Goals as goal

pub returns-then-not-has_digits-clause-value : goal.returns-then-not-has_digits-clause-value
returns-then-not-has_digits-clause-value c =
    let whole = rw c.digit_count.ensures.value at c.split_at.ensures.front in
    let rest = rw c.digit_count.ensures.value at c.split_at.ensures.back in
    let fraction = rw rest at c.split_fraction.ensures.digits in
    let none = no_digit c.args.text.now c.split_at.result.0.now c.split_fraction.result.0.now whole fraction (sym c.has_digits.ensures ∙ c.if-not-has_digits.true) in
    rw none refl

pub raw_size-requires-clause-whole : goal.raw_size-requires-clause-whole
raw_size-requires-clause-whole c =
    let whole = rw c.digit_count.ensures.value at c.split_at.ensures.front in
    rw whole (front_are_digits c.args.text.now)

pub raw_size-requires-clause-fraction : goal.raw_size-requires-clause-fraction
raw_size-requires-clause-fraction c = rw c.split_fraction.ensures.digits (point_are_digits c.split_at.result.1.now)

pub returns-in-Some-clause-value : goal.returns-in-Some-clause-value
returns-in-Some-clause-value c =
    let text = c.args.text.now in
    let digits = c.split_at.result.0.now in
    let decimals = c.split_fraction.result.0.now in
    let last = c.split_fraction.result.1.now in
    let e = c.in-Some.exponent in
    let whole = rw c.digit_count.ensures.value at c.split_at.ensures.front in
    let rest = rw c.digit_count.ensures.value at c.split_at.ensures.back in
    let fraction = rw rest at c.split_fraction.ensures.digits in
    let tail = rw rest at c.split_fraction.ensures.tail in
    let some = some_digit text digits decimals last whole fraction tail (sym c.has_digits.ensures ∙ c.if-not-has_digits.false) in
    let exponent = cond_some (is_exponent last) (signed_digits_value 10 (drop 1 last)) e (sym c.in-Some.ensures.value) in
    let is : is_unsigned_numeral text ≡ true = some ∙ exponent.0 in
    let raw = raw_by_parts text digits decimals last e whole fraction tail (sym exponent.1) in
    let kept : to_z w64 (of_z w64 c.raw_size.result) ≡ c.raw_size.result = omega (arith, ints) in
    let narrow : to_z w32 (of_z w32 e) ≡ e = to_z-of_z w32 e (fits_signed_from_abs w32 e (omega (arith, c.in-Some.ensures.size))) in
    let size = rw narrow at c.raw_size.ensures.value in
    let value : to_z w64 (of_z w64 c.raw_size.result) ≡ pos (unsigned_raw text) = kept ∙ size ∙ ap pos raw in
    rw (value, is) refl

pub returns-in-None-clause-value : goal.returns-in-None-clause-value
returns-in-None-clause-value c =
    let text = c.args.text.now in
    let last = c.split_fraction.result.1.now in
    let whole = rw c.digit_count.ensures.value at c.split_at.ensures.front in
    let rest = rw c.digit_count.ensures.value at c.split_at.ensures.back in
    let fraction = rw rest at c.split_fraction.ensures.digits in
    let tail = rw rest at c.split_fraction.ensures.tail in
    let some = some_digit text c.split_at.result.0.now c.split_fraction.result.0.now last whole fraction tail (sym c.has_digits.ensures ∙ c.if-not-has_digits.false) in
    let not = chosen_none (is_exponent last) (signed_digits_value 10 (drop 1 last)) (sym c.in-None.ensures.value) in
    let is : is_unsigned_numeral text ≡ false = some ∙ not in
    rw is refl

use Rattle.std.proofs.Common.{◌≤◌, arith}
use Rattle.std.proofs.Math.Nat.{pow-le-pow_right}
use Rattle.std.proofs.lemmas.Grind.{pow_more}
use Rattle.std.proofs.lemmas.Int.Digits.{digits_value_more}
use Rattle.std.proofs.lemmas.Str.Parse.{digit_at}
use Rattle.fixed_ops.proofs.DigitLaws.{digit_value_is}
use Rattle.fixed_ops.proofs.digits.small_number.Goals as goal

pub overflow_mul-number : goal.overflow_mul-number
overflow_mul-number c =
    let few : c.loop-digit.digit-index ≤ 18 = omega arith in
    omega (arith, pow-le-pow_right {n = 10} (omega arith) few)

pub overflow_sub-digit : goal.overflow_sub-digit
overflow_sub-digit c = omega (arith, digit_at c.args.digits.now c.loop-digit.digit-index c.requires.digits (omega arith))

pub overflow_add-number : goal.overflow_add-number
overflow_add-number c =
    let few : c.loop-digit.digit-index ≤ 18 = omega arith in
    omega (arith, pow-le-pow_right {n = 10} (omega arith) few, digit_at c.args.digits.now c.loop-digit.digit-index c.requires.digits (omega arith))

pub loop-digit-preserved : goal.loop-digit-preserved
loop-digit-preserved c =
    let i = c.loop-digit.digit-index in
    let ds = c.args.digits.now in
    let digit = digit_at ds i c.requires.digits (omega arith) in
    let more = digits_value_more 10 ds i (omega arith) in
    let value = digit_value_is _ digit.0 digit.1 in
    (omega (arith, more, value), omega (arith, digit, pow_more 10 i))

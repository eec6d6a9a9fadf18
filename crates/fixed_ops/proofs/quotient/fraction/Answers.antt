use Rattle.std.proofs.Common.{◌≡◌, ◌*◌, ◌%◌, ◌^◌, ◌<◌, arith}
use Rattle.std.proofs.Math.Nat.{mul-lt-mul_of_pos_right}
use Rattle.std.proofs.lemmas.Nat.{pow_pos}
use Rattle.std.specs.Int.Count.{count_leading_zeros}
use Rattle.fixed_ops.proofs.QuotientLaws.{shifted_whole, leading_bits_quotient}
use Rattle.fixed_ops.proofs.quotient.fraction.Goals as goal

pub nonzero_div-estimate : goal.nonzero_div-estimate
nonzero_div-estimate c = omega (arith, shifted_whole c.args.d (omega arith) (omega arith))

pub lowered-requires-clause-estimate : goal.lowered-requires-clause-estimate
lowered-requires-clause-estimate c =
    let p = 2 ^ count_leading_zeros 64 c.args.d in
    let whole = shifted_whole c.args.d (omega arith) (omega arith) in
    let less : c.args.r * p < c.args.d * p = mul-lt-mul_of_pos_right c.requires.dividend (pow_pos _) in
    let dividend : c.args.r * p % 2 ^ 64 ≡ c.args.r * p = omega arith in
    let divisor : c.args.d * p % 2 ^ 64 ≡ c.args.d * p = omega arith in
    rw (dividend, divisor) (leading_bits_quotient c.args.r c.args.d p (omega arith) (omega arith))

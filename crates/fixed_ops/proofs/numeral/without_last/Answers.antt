use Rattle.std.proofs.Common.{arith}
use Rattle.fixed_ops.proofs.DigitLaws.{take_digits}
use Rattle.fixed_ops.proofs.NumeralLaws.{dropped_places}
use Rattle.fixed_ops.proofs.numeral.without_last.Goals as goal

pub number_after-requires-clause-digits : goal.number_after-requires-clause-digits
number_after-requires-clause-digits c = take_digits _ c.args.digits.now c.requires

pub returns : goal.returns
returns c =
    let taken = rw c.saturating_sub.ensures at c.number_after.ensures in
    omega (arith, dropped_places c.args.digits.now c.args.dropped c.requires)

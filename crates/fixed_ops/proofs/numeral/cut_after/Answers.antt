use Rattle.fixed_ops.proofs.DigitLaws.{take_digits}
use Rattle.fixed_ops.proofs.NumeralLaws.{cut_inside, cut_beyond}
use Rattle.fixed_ops.specs.declared.digits.TheConstants.{TOO_GREAT}
use Rattle.fixed_ops.proofs.numeral.cut_after.Goals as goal

pub number_after-requires-clause-digits : goal.number_after-requires-clause-digits
number_after-requires-clause-digits c = take_digits c.args.places c.args.fraction.now c.requires.fraction

pub returns-then-places-fraction : goal.returns-then-places-fraction
returns-then-places-fraction c = cut_inside c.args.whole.now c.args.fraction.now c.args.places c.number_after-number.result c.number_after.result TOO_GREAT c.requires.fraction c.if-places-fraction.true c.number_after-number.ensures c.number_after.ensures

pub returns-else-places-fraction : goal.returns-else-places-fraction
returns-else-places-fraction c = cut_beyond c.args.whole.now c.args.fraction.now c.args.places c.number_after-number.result c.number_after-else-places-fraction.result c.with_zeros.result TOO_GREAT c.if-places-fraction.false c.number_after-number.ensures c.number_after-else-places-fraction.ensures c.with_zeros.ensures

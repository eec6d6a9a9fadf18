use Rattle.std.proofs.Common.{arith}
use Rattle.std.proofs.lemmas.Int.{ints}
use Rattle.fixed_ops.proofs.NumeralLaws.{short_size_is}
use Rattle.fixed_ops.proofs.numeral.short_size.Goals as goal

pub returns-then-units-clause-value : goal.returns-then-units-clause-value
returns-then-units-clause-value c =
    let e = short_size_is c.args.whole.now c.args.fraction.now (omega arith) in
    omega (arith, ints, e, c.nearest_fraction.ensures.value)

pub returns-else-units-clause-value : goal.returns-else-units-clause-value
returns-else-units-clause-value c =
    let e = short_size_is c.args.whole.now c.args.fraction.now (omega arith) in
    omega (arith, ints, e)

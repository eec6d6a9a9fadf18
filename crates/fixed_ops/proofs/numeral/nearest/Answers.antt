use Rattle.std.proofs.Common.{◌≡◌, ◌+◌, ◌-◌, ◌*◌, ◌/◌, ◌^◌, ◌<◌, arith}
use Rattle.std.proofs.lemmas.Int.{ints}
use Rattle.fixed_ops.proofs.NumeralLaws.{nearest_split}
use Rattle.fixed_ops.proofs.numeral.nearest.Goals as goal

pub returns-clause-value : goal.returns-clause-value
returns-clause-value c =
    let q = c.args.magnitude in
    let w = q / 10 ^ 28 in
    let r = q - w * 10 ^ 28 in
    let small : r < 10 ^ 28 = omega arith in
    let whole : w * 10 ^ 28 + r ≡ q = omega arith in
    let e = rw whole at (nearest_split w r small) in
    omega (arith, ints, e)

use Rattle.std.proofs.Common.{◌∙◌, arith, FitsSigned, w64}
use Rattle.std.proofs.lemmas.Int.{ints, to_z-of_z}
use Rattle.fixed_ops.proofs.QuotientLaws.{opposite_quotient}
use Rattle.fixed_ops.proofs.quotient.quotient.Goals as goal

pub returns-else-a-b-clause-value : goal.returns-else-a-b-clause-value
returns-else-a-b-clause-value c =
    let a : FitsSigned w64 c.args.a = c.ranges.a in
    let b : FitsSigned w64 c.args.b = c.ranges.b in
    let same = simp to_z-of_z at c.if-a-b.false in
    let left = simp to_z-of_z at c.unsigned_abs-dividend.ensures.value in
    let right = simp to_z-of_z at c.unsigned_abs-divisor.ensures.value in
    let size = rw (left, right) at c.rounded_up.ensures in
    let e = opposite_quotient c.args.a c.args.b c.rounded_up.result same (λ z. c.if-divisor-eq0.false (right ∙ z)) size in
    omega (arith, ints)

use Rattle.std.proofs.Common.{ap, sym, subst, ◌∙◌}
use Rattle.std.specs.Prelude.{is_some}
use Rattle.oct_descent.specs.Tables.{read}
use Rattle.oct_descent.specs.Taking.{TakesValue}
use Rattle.oct_descent.proofs.Takes.{value-kept, value-none, value-set}
use Rattle.oct_descent.proofs.grid_values.GridValues.take_place.Goals as goal

pub returns-then-is_some-clause-takes : goal.returns-then-is_some-clause-takes
returns-then-is_some-clause-takes c p within stands =
    value-kept c.args.self.now p c.args.to (read c.args.other.now.kept c.args.from) within stands (ap is_some (sym c.read.ensures) ∙ sym c.is_some.ensures ∙ c.if-is_some.true)

pub returns-in-Some-clause-takes : goal.returns-in-Some-clause-takes
returns-in-Some-clause-takes c p within stands =
    subst (λ v. TakesValue p v c.args.self.now c.set.new.self) (sym c.in-Some.is ∙ c.read-2.ensures)
    (value-set c.args.self.now c.set.new.self p c.args.to c.in-Some.value within stands (ap is_some (sym c.read.ensures) ∙ sym c.is_some.ensures ∙ c.if-is_some.false) (c.set.ensures.sets p within stands))

pub returns-in_default-clause-takes : goal.returns-in_default-clause-takes
returns-in_default-clause-takes c p within stands =
    subst (λ v. TakesValue p v c.args.self.now c.args.self.now) (sym (sym c.read-2.ensures ∙ c.in_default.is)) (value-none c.args.self.now p)

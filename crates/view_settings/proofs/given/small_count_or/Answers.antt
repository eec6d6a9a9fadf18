use Rattle.std.proofs.Common.{Some, sym, ap, ◌∙◌, arith}
use Rattle.view_settings.proofs.GivenLaws.{count_range, given_count, greatest_small}
use Rattle.view_settings.proofs.given.small_count_or.Goals as goal

pub overflow_cast-result : goal.overflow_cast-result
overflow_cast-result c =
    let given = sym c.value_given.ensures ∙ c.in-Some-Count.is ∙ ap Some c.in-Some-Count.field-0-is in
    let range = count_range c.args.verb c.args.name c.in-Some-Count.count (omega (arith, c.requires.default)) (given_count c.args.verb c.args.name c.args.taken.now c.in-Some-Count.count c.requires.each given) in
    omega (arith, range.few, greatest_small c.args.name)

pub returns-in-Some-Count-clause-within : goal.returns-in-Some-Count-clause-within
returns-in-Some-Count-clause-within c =
    let given = sym c.value_given.ensures ∙ c.in-Some-Count.is ∙ ap Some c.in-Some-Count.field-0-is in
    count_range c.args.verb c.args.name c.in-Some-Count.count (omega (arith, c.requires.default)) (given_count c.args.verb c.args.name c.args.taken.now c.in-Some-Count.count c.requires.each given)

use Rattle.std.proofs.Common.{Some, sym, ap, ◌∙◌, arith}
use Rattle.std.specs.Int.{w64}
use Rattle.std.proofs.lemmas.Int.{ints, to_z-of_z}
use Rattle.view_settings.proofs.GivenLaws.{given_raw}
use Rattle.view_settings.proofs.given.raw_or.Goals as goal

pub returns-in-Some-Raw-clause-raw : goal.returns-in-Some-Raw-clause-raw
returns-in-Some-Raw-clause-raw c =
    let given = sym c.value_given.ensures ∙ c.in-Some-Raw.is ∙ ap Some c.in-Some-Raw.field-0-is in
    let raw = given_raw c.args.verb c.args.name c.args.taken.now c.in-Some-Raw.v c.requires.each given in
    rw (to_z-of_z w64 c.in-Some-Raw.v (omega (arith, ints, raw.0, raw.1))) raw

-- The step that is read from where it is kept is that of the list.
use Rattle.std.proofs.Common.{◌<◌, Some, length, map, ap, sym, slice_get, subst, ◌∙◌, arith}
use Rattle.std.proofs.lemmas.List.{length-map}
use Rattle.std.proofs.lemmas.Option.{slice_get-get_or}
use Rattle.live_clauses.specs.Packed.{unpacked}
use Rattle.live_clauses.specs.Steps.{IsStepAt}
use Rattle.live_clauses.proofs.Stored.{kept_at, kept_at-is, read-stands, read-stored, step_at-unpacked}
use Rattle.live_clauses.proofs.tape.Steps.step.Goals as goal

pub unpack-requires : goal.unpack-requires
unpack-requires c =
    let constants = c.self.inside.constants.now in
    let kept = c.self.inside.packed.now in
    let within : c.args.at < length kept = omega (arith, c.requires, ap length c.self.view_is, length-map kept (unpacked constants)) in
    λ is. read-stored constants kept c.self.invariant.each c.args.at (kept_at kept c.args.at) within (kept_at-is kept c.args.at within) is

pub returns-clause-step : goal.returns-clause-step
returns-clause-step c =
    let constants = c.self.inside.constants.now in
    let kept = c.self.inside.packed.now in
    let within : c.args.at < length kept = omega (arith, c.requires, ap length c.self.view_is, length-map kept (unpacked constants)) in
    let there : c.args.at < length (map (unpacked constants) kept) = omega (arith, within, length-map kept (unpacked constants)) in
    ap (λ steps. slice_get steps c.args.at) (sym c.self.view_is) ∙ slice_get-get_or (map (unpacked constants) kept) c.args.at _ there
    ∙ ap Some (sym (c.unpack.ensures ∙ step_at-unpacked constants kept c.args.at (kept_at kept c.args.at) within (kept_at-is kept c.args.at within)))

pub returns-clause-stands : goal.returns-clause-stands
returns-clause-stands c =
    let constants = c.self.inside.constants.now in
    let kept = c.self.inside.packed.now in
    let within : c.args.at < length kept = omega (arith, c.requires, ap length c.self.view_is, length-map kept (unpacked constants)) in
    subst (IsStepAt c.args.at) (sym c.unpack.ensures) (read-stands constants kept c.self.invariant.each c.args.at (kept_at kept c.args.at) within (kept_at-is kept c.args.at within))

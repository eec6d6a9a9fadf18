-- The branch is that of the step at the place, in each lane.
use Rattle.std.proofs.Common.{◌∙◌, ap, arith, length, sym}
use Rattle.std.proofs.lemmas.List.{get_or_read}
use Rattle.fixed_ops.specs.Slopes.{Sloped, flat}
use Rattle.live_clauses.proofs.MarkTurns.{first_within, second_within}
use Rattle.normal_shade.specs.Branches.{branch}
use Rattle.normal_shade.specs.Duals.{dual_in}
use Rattle.normal_shade.proofs.Reached.{branch-is}
use Rattle.normal_shade.proofs.branches.point_row_at.Goals as goal

pub overflow_cast-place : goal.overflow_cast-place
overflow_cast-place c = omega (arith, c.requires.there, c.requires.tape.few)

pub returns : goal.returns
returns c = λ l h.
    let duals = c.args.duals.now in
    let step = c.step-step.result in
    let first = first_within c.args.place (length duals) step c.step-step.ensures.stands (omega (arith, c.requires.there, c.requires.room)) in
    let second = second_within c.args.place (length duals) step c.step-step.ensures.stands (omega (arith, c.requires.there, c.requires.room)) in
    c.all.ensures l h ∙ c.branch-step.ensures
    ∙ ap (λ v. branch step.op v c.b.inside.value) (ap (λ (d : Sloped). d.value) c.a.view_is)
    ∙ ap (λ v. branch step.op c.index-duals-step.result.value v) (ap (λ (d : Sloped). d.value) c.b.view_is)
    ∙ ap (λ (d : Sloped). branch step.op d.value c.index-duals-step-2.result.value) (get_or_read duals step.a c.index-duals-step.result first c.index-duals-step.is flat)
    ∙ ap (λ (d : Sloped). branch step.op (dual_in step.a duals).value d.value) (get_or_read duals step.b c.index-duals-step-2.result second c.index-duals-step-2.is flat)
    ∙ sym (branch-is c.args.list.now (λ place. (dual_in place duals).value) c.args.place step c.step-step.ensures.step)

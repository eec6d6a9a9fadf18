-- One more step has its value.
use Rattle.std.proofs.Common.{◌≡◌, ◌∙◌, ◌<◌, pos, ap, arith, get_or, length, subst, sym}
use Rattle.std.proofs.lemmas.List.{drop-set-lt, get_or_read}
use Rattle.fixed_ops.specs.Points.{Point}
use Rattle.fixed_ops.specs.Slopes.{Sloped, flat}
use Rattle.fixed_ops.proofs.PointLaws.{step_value-same}
use Rattle.live_clauses.specs.Steps.{IsTape, values}
use Rattle.live_clauses.proofs.MarkTurns.{first_within, second_within}
use Rattle.live_clauses.proofs.MeaningLaws.{meaning_at-step}
use Rattle.live_clauses.proofs.ValueLaws.{number_at, number_at-reads}
use Rattle.choice_trace.proofs.Elements.{read_more}
use Rattle.normal_shade.proofs.gradients.write_values.Goals as goal

pub loop-at-preserved : goal.loop-at-preserved
loop-at-preserved c =
    let p : Point = record { x = c.args.x; y = c.args.y; z = c.args.z } in
    let steps = c.again-steps.result in
    let duals = c.loop-at.duals in
    let at = c.loop-at.at in
    let step = c.step-step.result in
    let room : at < length duals = omega (arith, ap length c.again-steps.ensures.steps, c.len-len.ensures.len, c.loop-at-test.true, c.requires.room, c.loop-at.auto.duals) in
    let tape : IsTape steps = subst IsTape (sym c.again-steps.ensures.steps) c.again-steps.ensures.tape in
    let stands = c.step-step.ensures.stands in
    let first = get_or_read duals step.a c.index-duals-step.result (first_within at (length duals) step stands room) c.index-duals-step.is flat in
    let second = get_or_read duals step.b c.index-duals-step-in-loop-at.result (second_within at (length duals) step stands room) c.index-duals-step-in-loop-at.is flat in
    record {
      read = read_more (λ (d : Sloped) v. d.value ≡ v) flat duals (values p steps) at c.constant.result room c.loop-at.invariant.read
          (ap (λ (d : Sloped). d.value) c.constant.ensures ∙ c.step_value.ensures
          ∙ step_value-same step.op p step.value c.a.inside.value c.b.inside.value (get_or (values p steps) step.a (pos 0)) (get_or (values p steps) step.b (pos 0))
          (λ has. ap (λ (d : Sloped). d.value) c.a.view_is ∙ ap (λ (d : Sloped). d.value) first ∙ c.loop-at.invariant.read step.a (stands.fits.first has))
          (λ has. ap (λ (d : Sloped). d.value) c.b.view_is ∙ ap (λ (d : Sloped). d.value) second ∙ c.loop-at.invariant.read step.b (stands.fits.second has))
          ∙ sym (meaning_at-step (number_at p) (number_at-reads p) steps at step tape.each c.step-step.ensures.step));
      rest = drop-set-lt (length steps) duals at c.constant.result (omega (arith, c.len-len.ensures.len, c.loop-at-test.true)) ∙ c.loop-at.invariant.rest;
    }

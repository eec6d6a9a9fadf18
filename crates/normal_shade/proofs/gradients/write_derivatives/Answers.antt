-- One more step that is reached has its dual number.
use Rattle.std.proofs.Common.{◌≡◌, ◌∙◌, ◌+◌, ◌<◌, ℕ, ℤ, true, false, Some, ap, arith, drop, length, slice_get, subst, sym}
use Rattle.std.proofs.lemmas.List.{drop-set-lt, get_or_read}
use Rattle.fixed_ops.specs.Slopes.{Sloped, flat}
use Rattle.live_clauses.proofs.MarkTurns.{first_within, second_within}
use Rattle.live_clauses.specs.Steps.{IsTape}
use Rattle.normal_shade.specs.Branches.{is_reached}
use Rattle.normal_shade.specs.Duals.{dual_in, AreDuals}
use Rattle.normal_shade.proofs.Reached.{cost-stays, cost-written, dual-value, values-stay, dual-written, duals-more, duals-stay}
use Rattle.normal_shade.proofs.gradients.write_derivatives.Goals.{then-is_set, else-is_set}
use Rattle.normal_shade.proofs.gradients.write_derivatives.Goals as goal

pub loop-at-preserved : goal.loop-at-preserved
loop-at-preserved c =
    let list = c.args.list.now in
    let at = c.loop-at.at in
    let was = c.loop-at.invariant in
    let tape : IsTape list = c.again-steps.ensures.tape in
    let within : at < length list = omega (arith, ap length c.again-steps.ensures.steps, c.len-len.ensures.len, c.loop-at-test.true) in
    elim c.if-is_set.branch [
      | then-is_set w ↦
          let step = w.step-step.result in
          let duals = c.loop-at.duals in
          let value : ℕ → ℤ = λ k. (dual_in k c.args.duals.now).value in
          let is : slice_get list at ≡ Some step = subst (λ s. slice_get s at ≡ Some step) c.again-steps.ensures.steps w.step-step.ensures.step in
          let stands = w.step-step.ensures.stands in
          let room : at < length duals = omega (arith, within, c.requires.room, c.loop-at.auto.duals) in
          let for_a = get_or_read duals step.a w.index-duals-step.result (first_within at (length duals) step stands room) w.index-duals-step.is flat in
          let for_b = get_or_read duals step.b w.index-duals-step-then-is_set.result (second_within at (length duals) step stands room) w.index-duals-step-then-is_set.is flat in
          let for_r = get_or_read duals at w.index-duals-place.result room w.index-duals-place.is flat in
          let value_of = λ (d : Sloped). d.value in
          let here = ap value_of w.here.view_is ∙ ap value_of for_r ∙ was.values at in
          let first = ap value_of w.da.view_is ∙ ap value_of for_a ∙ was.values step.a in
          let second = ap value_of w.db.view_is ∙ ap value_of for_b ∙ was.values step.b in
          let kept : w.step_dual.result.value ≡ (dual_in at duals).value =
          ap value_of w.step_dual.ensures ∙ dual-value step.op w.here.inside.value w.da.inside.value w.db.inside.value w.index-duals-step.result w.index-duals-step-then-is_set.result ∙ ap value_of w.here.view_is ∙ ap value_of for_r in
          record {
            values = λ k. ap (λ l. (dual_in k l).value) w.duals-is ∙ values-stay duals at w.step_dual.result k room kept ∙ was.values k;
            duals = λ p values marks.
                subst (λ l. AreDuals p list (λ k. dual_in k l) (at + 1)) (sym w.duals-is)
                (duals-more p list tape at duals w.step_dual.result room (was.duals p values marks)
                (λ reached. w.step_dual.ensures ∙ dual-written p list tape at step value is values reached _ _ _ here first second (λ k. dual_in k duals) _ _ for_a for_b (was.duals p values marks)));
            cost = λ p values marks.
                let reached : is_reached p list at ≡ true = sym (marks at within) ∙ sym c.is_set.ensures ∙ w.if-is_set.true in
                w.count-is ∙ cost-written p list tape at step value is values reached _ _ _ here first second c.loop-at.count w.derivative_cost-count.result (was.cost p values marks) w.derivative_cost-count.ensures.cost;
            few = omega (arith, w.count-is, was.few, w.derivative_cost-count.ensures.few);
            rest = ap (drop (length list)) w.duals-is ∙ drop-set-lt (length list) duals at w.step_dual.result within ∙ was.rest;
          }
      | else-is_set w ↦ record {
        duals = λ p values marks.
            let unreached : is_reached p list at ≡ false = sym (marks at within) ∙ sym c.is_set.ensures ∙ w.if-is_set.false in
            subst (λ l. AreDuals p list (λ k. dual_in k l) (at + 1)) (sym w.duals-is) (duals-stay p list tape at (λ k. dual_in k c.loop-at.duals) (was.duals p values marks) unreached);
        cost = λ p values marks.
            let unreached : is_reached p list at ≡ false = sym (marks at within) ∙ sym c.is_set.ensures ∙ w.if-is_set.false in
            w.count-is ∙ cost-stays p list tape at c.loop-at.count unreached (was.cost p values marks);
        few = omega (arith, w.count-is, was.few);
        values = λ k. ap (λ l. (dual_in k l).value) w.duals-is ∙ was.values k;
        rest = ap (drop (length list)) w.duals-is ∙ was.rest;
      }
    ]

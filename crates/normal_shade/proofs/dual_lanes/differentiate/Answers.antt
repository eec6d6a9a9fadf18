-- One more row has the dual numbers of its step in the lanes in which that is reached.
use Rattle.std.proofs.Common.{◌≡◌, ◌∙◌, ◌+◌, ◌<◌, ℕ, false, Some, [], ap, arith, cond, length, refl, slice_get, slice_index, subst, sym}
use Rattle.std.specs.List.{range_with_len, sum_by}
use Rattle.std.proofs.lemmas.List.{get_or_read}
use Rattle.fixed_ops.specs.Points.{Point}
use Rattle.live_clauses.proofs.Bits.{has_bit-zero}
use Rattle.live_clauses.proofs.MarkTurns.{first_within, second_within}
use Rattle.live_clauses.specs.Choices.{has_bit}
use Rattle.live_clauses.specs.Steps.{IsTape}
use Rattle.choice_trace.specs.Lanes.{in_lane, number_at}
use Rattle.normal_shade.specs.Branches.{is_reached}
use Rattle.normal_shade.specs.DualWork.{derivative_cost, derivatives_below}
use Rattle.normal_shade.specs.Duals.{AreDuals, MarksReached, dual_at}
use Rattle.normal_shade.proofs.DualRows.{lane-cost, lane-written, sums-add, sums-none, sums-same}
use Rattle.normal_shade.proofs.Reached.{cost-stays, duals-stay}
use Rattle.normal_shade.proofs.dual_lanes.differentiate.Goals.{then-reached-ne0, else-reached-ne0}
use Rattle.normal_shade.proofs.dual_lanes.differentiate.Goals as goal

pub loop-at-init : goal.loop-at-init
loop-at-init g c = record {
  duals = λ lane p below values marks place none reached. absurd (omega (arith, none));
  cost = λ at values marks. sums-none (λ lane. derivatives_below (at lane) c.args.list.now 0) g.row.L (λ lane below. refl);
  few = omega arith;
}

pub loop-at-preserved : goal.loop-at-preserved
loop-at-preserved g c =
    let list = c.args.list.now in
    let at = c.loop-at.at in
    let was = c.loop-at.invariant in
    let rows = c.args.values.now in
    let marks = c.args.marks.now in
    let tape : IsTape list = c.again-steps.ensures.tape in
    let within : at < length list = omega (arith, ap length c.again-steps.ensures.steps, c.len-len.ensures.len, c.loop-at-test.true) in
    elim c.if-reached-ne0.branch [
      | then-reached-ne0 w ↦
          let step = w.step-step.result in
          let duals = c.loop-at.duals in
          let reached = slice_index marks at in
          let is : slice_get list at ≡ Some step = subst (λ s. slice_get s at ≡ Some step) c.again-steps.ensures.steps w.step-step.ensures.step in
          let stands = w.step-step.ensures.stands in
          let deep : at < length rows = omega (arith, within, c.requires.values) in
          let room : at < length duals = omega (arith, within, c.requires.room, c.loop-at.auto.duals) in
          let row_a = get_or_read rows step.a w.index-values-step.result (first_within at (length rows) step stands deep) w.index-values-step.is [] in
          let row_b = get_or_read rows step.b w.index-values-step-then-reached-ne0.result (second_within at (length rows) step stands deep) w.index-values-step-then-reached-ne0.is [] in
          let row_r = get_or_read rows at w.index-values-place.result deep w.index-values-place.is [] in
          record {
            duals = λ lane p below values marked.
                subst (λ l. AreDuals p list (dual_at lane l) (at + 1)) (sym w.duals-is)
                (lane-written p list tape at step (number_at lane rows) is values _ _ _ (ap (in_lane lane) row_r) (ap (in_lane lane) row_a) (ap (in_lane lane) row_b)
                lane duals w.split_at_mut-earlier.result.0.now w.split_at_mut-earlier.result.1.now w.write_row.new.row w.split_at_mut-earlier.ensures.value w.split_at_mut-earlier.ensures.front_len room
                (w.write_row.ensures lane below) (was.duals lane p below values marked));
            cost = λ p values marked.
                w.count-is ∙ ap (λ n. n + w.row_cost-count.result) (was.cost p values marked)
                ∙ ap (λ n. sum_by (λ lane. derivatives_below (p lane) list at) (range_with_len 0 g.row.L) + n) w.row_cost-count.ensures.cost
                ∙ sums-add (λ lane. derivatives_below (p lane) list at)
                (λ lane. cond (has_bit reached lane) (derivative_cost step.op (in_lane lane w.index-values-step.result) (in_lane lane w.index-values-step-then-reached-ne0.result) (in_lane lane w.index-values-place.result)) 0)
                (λ lane. derivatives_below (p lane) list (at + 1)) g.row.L
                (λ lane below. lane-cost (p lane) list tape at step (number_at lane rows) is (values lane below) _ _ _ (ap (in_lane lane) row_r) (ap (in_lane lane) row_a) (ap (in_lane lane) row_b)
                (has_bit reached lane) (marked lane below at within));
            few = omega (arith, w.count-is, was.few, w.row_cost-count.ensures.few, c.requires.lanes);
          }
      | else-reached-ne0 w ↦
          let unreached : (lane : ℕ) (p : Point) → MarksReached p list lane marks → is_reached p list at ≡ false =
          λ lane p marked. sym (marked at within) ∙ ap (λ byte. has_bit byte lane) w.if-reached-ne0.false ∙ has_bit-zero lane in
          record {
            duals = λ lane p below values marked.
                subst (λ l. AreDuals p list (dual_at lane l) (at + 1)) (sym w.duals-is)
                (duals-stay p list tape at (dual_at lane c.loop-at.duals) (was.duals lane p below values marked) (unreached lane p marked));
            cost = λ p values marked.
                w.count-is ∙ was.cost p values marked
                ∙ sums-same (λ lane. derivatives_below (p lane) list at) (λ lane. derivatives_below (p lane) list (at + 1)) g.row.L
                (λ lane below. cost-stays (p lane) list tape at _ (unreached lane (p lane) (marked lane below)) refl);
            few = omega (arith, w.count-is, was.few);
          }
    ]

pub returns-clause-cost : goal.returns-clause-cost
returns-clause-cost g c = λ at values marks.
    let all : c.loop-at.at ≡ length c.args.list.now = omega (arith, ap length c.again-steps.ensures.steps, c.len-len.ensures.len, c.loop-at-test.false, c.loop-at.auto.at-end) in
    c.loop-at.invariant.cost at values marks
    ∙ ap (λ n. sum_by (λ lane. derivatives_below (at lane) c.args.list.now n) (range_with_len 0 g.row.L)) all

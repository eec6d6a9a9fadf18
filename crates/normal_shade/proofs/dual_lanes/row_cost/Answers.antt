-- One lane more is counted where the step is reached there.
use Rattle.std.proofs.Common.{◌≡◌, ◌∙◌, ℕ, pos, true, false, cond, ap, arith, get_or, rules, sym}
use Rattle.std.proofs.lemmas.List.{get_or_read}
use Rattle.choice_trace.specs.Lanes.{in_lane}
use Rattle.live_clauses.specs.Choices.{has_bit}
use Rattle.normal_shade.specs.DualWork.{derivative_cost}
use Rattle.normal_shade.proofs.Reached.{below-more}
use Rattle.normal_shade.proofs.dual_lanes.row_cost.Goals.{then-is_set, else-is_set}
use Rattle.normal_shade.proofs.dual_lanes.row_cost.Goals as goal

pub loop-lane-preserved : goal.loop-lane-preserved
loop-lane-preserved g c =
    let l = c.loop-lane.lane in
    let op = c.args.op in
    let was = c.loop-lane.invariant in
    let cost : ℕ → ℕ = λ k. derivative_cost op (in_lane k c.args.a.now) (in_lane k c.args.b.now) (in_lane k c.args.value.now) in
    let f : ℕ → ℕ = λ k. cond (has_bit c.args.reached k) (cost k) 0 in
    let more = below-more f l in
    elim c.if-is_set.branch [
      | then-is_set w ↦
          let bit : has_bit c.args.reached l ≡ true = sym c.is_set.ensures ∙ w.if-is_set.true in
          let here : f l ≡ cost l = ap (λ t. cond t (cost l) 0) bit in
          let a : get_or c.args.a.now l w.index-a-lane.result ≡ in_lane l c.args.a.now = sym w.index-a-lane.is ∙ get_or_read c.args.a.now l w.index-a-lane.result (search rules) w.index-a-lane.is (pos 0) in
          let b : get_or c.args.b.now l w.index-b-lane.result ≡ in_lane l c.args.b.now = sym w.index-b-lane.is ∙ get_or_read c.args.b.now l w.index-b-lane.result (search rules) w.index-b-lane.is (pos 0) in
          let value : get_or c.args.value.now l w.index-value-lane.result ≡ in_lane l c.args.value.now = sym w.index-value-lane.is ∙ get_or_read c.args.value.now l w.index-value-lane.result (search rules) w.index-value-lane.is (pos 0) in
          let made : w.derivative_cost-count.result ≡ cost l =
          w.derivative_cost-count.ensures.cost ∙ ap (λ v. derivative_cost op v (get_or c.args.b.now l w.index-b-lane.result) (get_or c.args.value.now l w.index-value-lane.result)) a
          ∙ ap (λ v. derivative_cost op (in_lane l c.args.a.now) v (get_or c.args.value.now l w.index-value-lane.result)) b
          ∙ ap (λ v. derivative_cost op (in_lane l c.args.a.now) (in_lane l c.args.b.now) v) value in
          record {
            cost = omega (arith, w.count-is, was.cost, more, here, made);
            few = omega (arith, w.count-is, was.few, w.derivative_cost-count.ensures.few);
          }
      | else-is_set w ↦
          let bit : has_bit c.args.reached l ≡ false = sym c.is_set.ensures ∙ w.if-is_set.false in
          let here : f l ≡ 0 = ap (λ t. cond t (cost l) 0) bit in
          record {
            cost = omega (arith, w.count-is, was.cost, more, here);
            few = omega (arith, w.count-is, was.few);
          }
    ]

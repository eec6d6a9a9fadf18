-- Values, marks and derivatives one after the other are the list's dual number.
use Rattle.std.proofs.Common.{◌∙◌, ◌+◌, ◌-◌, ap, arith, length, subst, sym}
use Rattle.std.proofs.lemmas.List.{get_or_read}
use Rattle.fixed_ops.specs.Counts.{RisesBy, points_of}
use Rattle.fixed_ops.specs.Points.{Point}
use Rattle.fixed_ops.specs.Slopes.{flat}
use Rattle.live_clauses.specs.Meanings.{sloped_at, tape_meaning}
use Rattle.live_clauses.specs.Steps.{IsTape}
use Rattle.normal_shade.specs.DualWork.{derivatives_below, dual_points}
use Rattle.normal_shade.specs.Duals.{MarksReached, dual_in}
use Rattle.normal_shade.proofs.Reached.{last-dual}
use Rattle.normal_shade.proofs.gradients.gradient.Goals as goal

pub returns-clause-slopes : goal.returns-clause-slopes
returns-clause-slopes c =
    let p : Point = record { x = c.args.x; y = c.args.y; z = c.args.z } in
    let list = c.steps-list.result in
    let tape : IsTape list = subst IsTape (sym c.steps-list.ensures.steps) c.steps-list.ensures.tape in
    let reached : MarksReached p list 0 c.mark_reached.new.marks = c.mark_reached.ensures p c.write_values.ensures.values in
    let regs = c.write_derivatives-count.new.duals in
    get_or_read regs (c.len-len.result - 1) c.index-regs-len.result (omega (arith, c.len-len.ensures.len, c.requires.room, ap length c.steps-list.ensures.steps, tape.some, c.write_derivatives-count.auto.duals, c.write_values.auto.duals)) c.index-regs-len.is flat
    ∙ ap (λ n. dual_in (n - 1) regs) c.len-len.ensures.len
    ∙ last-dual p list tape (λ place. dual_in place regs) (c.write_derivatives-count.ensures.duals p c.write_values.ensures.values reached)
    ∙ ap (tape_meaning (sloped_at p)) c.steps-list.ensures.steps

pub returns-clause-counted : goal.returns-clause-counted
unfolding dual_points
returns-clause-counted c =
    let p : Point = record { x = c.args.x; y = c.args.y; z = c.args.z } in
    let list = c.steps-list.result in
    let tape : IsTape list = subst IsTape (sym c.steps-list.ensures.steps) c.steps-list.ensures.tape in
    let reached : MarksReached p list 0 c.mark_reached.new.marks = c.mark_reached.ensures p c.write_values.ensures.values in
    let cost = c.write_derivatives-count.ensures.cost p c.write_values.ensures.values reached in
    subst (λ n. RisesBy c.args.tally.now c.count_points.new.tally (points_of n))
    (omega (arith, c.len-len.ensures.len, cost, c.from.ensures) ∙ ap (λ s. length s + derivatives_below p s (length s)) c.steps-list.ensures.steps)
    c.count_points.ensures

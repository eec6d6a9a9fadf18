use Rattle.std.proofs.Common.{◌≡◌, ◌∙◌, ◌-◌, ap, arith, get_or, length, subst, sym, take}
use Rattle.std.proofs.lemmas.List.{drop-set-lt, get_or_read}
use Rattle.fixed_ops.specs.Counts.{no_counts}
use Rattle.interval_ops.specs.HullCounts.{CountsHulls}
use Rattle.interval_ops.specs.Spans.{Holds, Interval, all_numbers}
use Rattle.interval_ops.specs.declared.choice.Choice.TheVariants.{Both}
use Rattle.live_clauses.specs.Steps.{tape_value}
use Rattle.choice_trace.specs.Hulls.{choices_over, hulls, tape_hull}
use Rattle.choice_trace.specs.Operands.{operand_of}
use Rattle.choice_trace.proofs.Applied.{operands-trace, ranges_of}
use Rattle.choice_trace.proofs.HullLists.{length-hulls}
use Rattle.choice_trace.proofs.Traces.{agree, all_chosen, are_choices, are_right, choice_written, front_more, hull_written, last_held, length-choices}
use Rattle.interval_ops.proofs.HullCountLaws.{CountsHulls-apart, CountsHulls-then}
use Rattle.live_clauses.proofs.MarkTurns.{first_within, second_within}
use Rattle.choice_trace.proofs.tracer.trace_steps.Goals as goal

pub loop-at-preserved : goal.loop-at-preserved
loop-at-preserved c =
    let region = c.args.region in
    let steps = c.again-steps.result in
    let at = c.loop-at.at in
    let step = c.step-step.result in
    let a = c.operands.result.0 in
    let b = c.operands.result.1 in
    let same_length = ap length c.again-steps.ensures.steps in
    let stand = c.len-len.ensures.tape.each in
    let same = c.loop-at.invariant.hulls in
    let operands = operands-trace region c.loop-at.regs step a b (first_within at (length c.loop-at.regs) step c.step-step.ensures.stands (omega (arith, same_length))) (second_within at (length c.loop-at.regs) step c.step-step.ensures.stands (omega (arith, same_length)))
    (c.operands.ensures.first ∙ ap (λ s. operand_of step.op (ranges_of region) s (get_or c.loop-at.regs step.a region.x)) c.new-constant.ensures)
    (c.operands.ensures.second ∙ ap (λ s. operand_of step.op (ranges_of region) s (get_or c.loop-at.regs step.b region.x)) c.new-constant.ensures) in
    record {
      hulls = front_more c.loop-at.regs (hulls region steps) at c.span_apply.result all_numbers (omega (arith, same_length)) (omega (arith, length-hulls region steps)) same
          (hull_written region steps c.loop-at.regs at step a b c.span_apply.result stand c.step-step.ensures.step same operands c.span_apply.ensures.value);
      chosen = front_more c.loop-at.choices (choices_over region steps) at c.choose.result Both (omega (arith, same_length)) (omega (arith, length-choices region steps)) c.loop-at.invariant.chosen
          (choice_written region steps c.loop-at.regs at step a b c.choose.result stand c.step-step.ensures.step same operands c.choose.ensures);
      hulls_rest = drop-set-lt (length steps) c.loop-at.regs at c.span_apply.result (omega arith) ∙ c.loop-at.invariant.hulls_rest;
      choices_rest = drop-set-lt (length steps) c.loop-at.choices at c.choose.result (omega arith) ∙ c.loop-at.invariant.choices_rest;
      counted = CountsHulls-then no_counts c.loop-at.work c.span_apply.new.tally at 1 c.loop-at.invariant.counted c.span_apply.ensures.counted;
    }

pub returns-clause-hull : goal.returns-clause-hull
returns-clause-hull c =
    let region = c.args.region in
    let steps = c.again-steps.result in
    let last = c.len-len.result - 1 in
    let read : c.index-regs-len.result ≡ get_or c.loop-at.regs last all_numbers =
    get_or_read c.loop-at.regs last c.index-regs-len.result (omega (arith, ap length c.again-steps.ensures.steps, c.len-len.ensures.tape.some)) c.index-regs-len.is all_numbers in
    read
    ∙ agree c.loop-at.regs (hulls region steps) c.loop-at.at last all_numbers c.loop-at.invariant.hulls (omega (arith, c.len-len.ensures.tape.some))
    ∙ ap (λ n. get_or (hulls region steps) (n - 1) all_numbers) c.len-len.ensures.len
    ∙ ap (λ tape. tape_hull region tape) c.again-steps.ensures.steps

pub returns-clause-choices : goal.returns-clause-choices
returns-clause-choices c =
    let same = c.again-steps.ensures.steps in
    all_chosen c.args.region c.args.list.now c.loop-at.choices c.loop-at.at (omega (arith, ap length same))
    (subst (λ steps. take c.loop-at.at c.loop-at.choices ≡ take c.loop-at.at (choices_over c.args.region steps)) same c.loop-at.invariant.chosen)

pub returns-clause-only : goal.returns-clause-only
returns-clause-only c = are_choices c.args.region c.args.list.now c.loop-at.choices (returns-clause-choices c)

pub returns-clause-holds : goal.returns-clause-holds
returns-clause-holds c = λ p inside.
    let steps = c.args.list.now in
    let tape = c.again-steps.ensures.tape in
    subst (λ (s : Interval). Holds s (tape_value p steps)) (sym (returns-clause-hull c))
    (last_held c.args.region p steps (record { x = c.lo.ensures.span; y = c.lo-2.ensures.span; z = c.lo-3.ensures.span }) inside tape)

pub returns-clause-right : goal.returns-clause-right
returns-clause-right c = λ p inside.
    are_right c.args.region c.args.list.now c.loop-at.choices p (record { x = c.lo.ensures.span; y = c.lo-2.ensures.span; z = c.lo-3.ensures.span })
    c.again-steps.ensures.tape.each (returns-clause-choices c) inside

pub returns-clause-counted : goal.returns-clause-counted
returns-clause-counted c =
    let all : c.loop-at.at ≡ length c.args.list.now = omega (arith, c.len-len.ensures.len, ap length c.again-steps.ensures.steps) in
    CountsHulls-apart c.args.tally.now c.join.new.self c.loop-at.work (length c.args.list.now)
    (subst (λ n. CountsHulls n no_counts c.loop-at.work) all c.loop-at.invariant.counted) c.join.ensures

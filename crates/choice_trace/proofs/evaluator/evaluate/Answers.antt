use Rattle.std.proofs.Common.{◌∙◌, ap, arith, drop, length, refl, subst, sym}
use Rattle.std.proofs.lemmas.List.{drop-set-lt}
use Rattle.fixed_ops.specs.Counts.{RisesWithin, no_counts, times}
use Rattle.live_clauses.specs.Steps.{values}
use Rattle.choice_trace.proofs.Applied.{operands-stand}
use Rattle.choice_trace.proofs.Elements.{none_read, read_more, step_stands, within_more, within_none}
use Rattle.choice_trace.proofs.evaluator.evaluate.Goals as goal

pub loop-at-init : goal.loop-at-init
loop-at-init g c = let d = g.D.Domain in record {
  read = λ p stand. none_read d.stands_for c.args.inputs.x c.args.regs.now (values p c.steps-steps.result);
  rest = refl {a = drop (length c.steps-steps.result) c.args.regs.now};
  counted = subst (λ counts. RisesWithin no_counts counts (times 0 d.least) (times 0 d.most)) (sym c.new-work.ensures) (within_none no_counts d.least d.most);
}

pub loop-at-preserved : goal.loop-at-preserved
loop-at-preserved g c =
    let d = g.D.Domain in
    let steps = c.steps-steps.result in
    let at = c.loop-at.at in
    let step = c.step-step.result in
    let a = c.operands.result.0 in
    let b = c.operands.result.1 in
    record {
      read = λ p stand.
          read_more d.stands_for c.args.inputs.x c.loop-at.regs (values p steps) at c.apply.result (omega (arith, ap length c.steps-steps.ensures.steps)) (c.loop-at.invariant.read p stand)
          (step_stands d.stands_for p steps at step a b c.apply.result c.len-len.ensures.tape.each c.step-step.ensures.step
          (operands-stand d.stands_for c.args.inputs c.constant.result c.loop-at.regs p (values p steps) at step a b c.step-step.ensures.stands c.constant.ensures stand (c.loop-at.invariant.read p stand) c.operands.ensures.first c.operands.ensures.second) c.apply.ensures.stands);
      rest = drop-set-lt (length steps) c.loop-at.regs at c.apply.result (omega arith) ∙ c.loop-at.invariant.rest;
      counted = within_more no_counts c.loop-at.work c.apply.new.tally d.least d.most at c.loop-at.invariant.counted c.apply.ensures.counted;
    }

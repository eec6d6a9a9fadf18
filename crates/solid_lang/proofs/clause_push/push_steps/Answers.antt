-- One clause more.
use Rattle.std.proofs.Common.{◌≡◌, ◌+◌, length, ap, ◌∙◌, length-append, arith}
use Rattle.solid_lang.proofs.PushLemmas.{one_more}
use Rattle.solid_lang.proofs.clause_push.push_steps.Goals as goal

pub loop-step-preserved : goal.loop-step-preserved
loop-step-preserved c =
    let now = c.loop-step.builder in
    let so_far = c.loop-step.invariant in
    let next = c.in_ok-push_step.ensures.clause in
    let long : length c.push_step.new.builder ≡ length now + 1 = ap length next ∙ length-append now _ in
    record {
      long = omega (arith, long, so_far.long);
      named = c.in_ok-push_step.ensures.named;
      clauses = one_more c.args.builder.now now c.push_step.new.builder c.args.place c.loop-step.step-index c.args.steps.now c.step-item.result c.loop-step-test.true c.step-item.is c.requires.next so_far.clauses so_far.long next;
    }

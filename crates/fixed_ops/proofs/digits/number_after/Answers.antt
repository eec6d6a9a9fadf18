use Rattle.std.proofs.Common.{arith, take, drop, ◌∙◌}
use Rattle.std.proofs.lemmas.List.{take-append-drop}
use Rattle.fixed_ops.specs.declared.digits.TheConstants.{TOO_GREAT}
use Rattle.fixed_ops.proofs.DigitLaws.{drop_digits, run_step}
use Rattle.fixed_ops.proofs.digits.number_after.Goals as goal

pub loop-rest-preserved : goal.loop-rest-preserved
loop-rest-preserved c =
    let rest = c.loop-rest.rest.now in
    let step = rw take-append-drop at (run_step c.loop-rest.number (take 19 rest) (drop 19 rest) TOO_GREAT) in
    let run = rw c.split_at.ensures.front at c.number_after_few-number.ensures in
    record {
      number = omega arith;
      digits = rw c.split_at.ensures.back (drop_digits 19 rest c.loop-rest.invariant.digits);
      value = rw (c.split_at.ensures.back, run) (step ∙ c.loop-rest.invariant.value);
    }

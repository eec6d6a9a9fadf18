use Rattle.std.proofs.Common.{◌≡◌, ◌≢◌, ℕ, ◌<◌, Some, slice_get, length}
use Rattle.fixed_ops.specs.declared.operation.Op.TheVariants.{Min, Max}
use Rattle.interval_ops.specs.declared.choice.Choice.TheVariants.{Both}
use Rattle.live_clauses.specs.declared.step.Step.{Step}
use Rattle.live_clauses.specs.Choices.{choice_at}
use Rattle.descent_tests.proofs.shortened.at_each.Given as goal

abbrev pub invariant-loop-place : goal.invariant-loop-place
invariant-loop-place l = record {
  as_many : length l.choices.items ≡ l.place;
  each : (place : ℕ) (step : Step) → place < l.place → slice_get l.tape place ≡ Some step → step.op ≢ Min → step.op ≢ Max → choice_at l.choices.items place ≡ Both;
}

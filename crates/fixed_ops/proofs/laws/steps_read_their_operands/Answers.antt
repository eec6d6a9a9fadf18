-- The laws of steps are lemmas.
use Rattle.fixed_ops.proofs.PointLaws.{step_value-same, IsRaw-step_value}
use Rattle.fixed_ops.proofs.laws.steps_read_their_operands.Goals as goal

pub returns-clause-read : goal.returns-clause-read
returns-clause-read c = step_value-same

pub returns-clause-raw : goal.returns-clause-raw
returns-clause-raw c = IsRaw-step_value

use Rattle.choice_trace.proofs.StepHulls.{hulls_hold, only_hulls}
use Rattle.choice_trace.proofs.laws.hulls_of_steps.Goals as goal

pub returns-clause-hold : goal.returns-clause-hold
returns-clause-hold c = hulls_hold

pub returns-clause-only : goal.returns-clause-only
returns-clause-only c = only_hulls

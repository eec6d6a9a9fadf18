use Rattle.choice_trace.proofs.WorkLaws.{hulls_are_exact, points_are_exact}
use Rattle.choice_trace.proofs.laws.work_of_steps.Goals as goal

pub returns-clause-points : goal.returns-clause-points
returns-clause-points c = points_are_exact

pub returns-clause-hulls : goal.returns-clause-hulls
returns-clause-hulls c = hulls_are_exact

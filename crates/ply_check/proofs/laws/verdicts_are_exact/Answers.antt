-- The laws are lemmas.
use Rattle.ply_check.proofs.VerdictLaws.{one_finding_is_right, verdicts_are_exact}
use Rattle.ply_check.proofs.Worked.{worked_out}
use Rattle.ply_check.proofs.laws.verdicts_are_exact.Goals as goal

pub returns-clause-exact : goal.returns-clause-exact
returns-clause-exact c = verdicts_are_exact

pub returns-clause-one : goal.returns-clause-one
returns-clause-one c = one_finding_is_right

pub returns-clause-worked_out : goal.returns-clause-worked_out
returns-clause-worked_out c = worked_out

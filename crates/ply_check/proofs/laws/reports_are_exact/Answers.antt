-- The one verdict is the one that is worked out.
use Rattle.ply_check.proofs.Theorems.{refusals_are_reported, verdicts_are_reported}
use Rattle.ply_check.proofs.laws.reports_are_exact.Goals as goal

pub returns-clause-verdicts : goal.returns-clause-verdicts
returns-clause-verdicts c = verdicts_are_reported

pub returns-clause-refusals : goal.returns-clause-refusals
returns-clause-refusals c = refusals_are_reported

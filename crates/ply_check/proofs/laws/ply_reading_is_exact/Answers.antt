-- The laws are lemmas.
use Rattle.ply_check.proofs.Exact.{each_answered, never_both, one_reading, one_refusal}
use Rattle.ply_check.proofs.Theorems.{reading_is_worked_out, refusal_is_worked_out}
use Rattle.ply_check.proofs.laws.ply_reading_is_exact.Goals as goal

pub returns-clause-answered : goal.returns-clause-answered
returns-clause-answered c = each_answered

pub returns-clause-never_both : goal.returns-clause-never_both
returns-clause-never_both c = never_both

pub returns-clause-one_reading : goal.returns-clause-one_reading
returns-clause-one_reading c = one_reading

pub returns-clause-one_refusal : goal.returns-clause-one_refusal
returns-clause-one_refusal c = one_refusal

pub returns-clause-reading_worked_out : goal.returns-clause-reading_worked_out
returns-clause-reading_worked_out c = reading_is_worked_out

pub returns-clause-refusal_worked_out : goal.returns-clause-refusal_worked_out
returns-clause-refusal_worked_out c = refusal_is_worked_out

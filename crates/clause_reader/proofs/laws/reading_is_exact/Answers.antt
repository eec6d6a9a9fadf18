-- The laws of reading are lemmas.
use Rattle.clause_reader.proofs.Said.{clauses_with-one, reads_exactly, refuses_exactly, each_answered, never_both, one_reading, one_refusal, never_memory}
use Rattle.clause_reader.proofs.laws.reading_is_exact.Goals as goal

pub returns-clause-reads : goal.returns-clause-reads
returns-clause-reads c = reads_exactly

pub returns-clause-refuses : goal.returns-clause-refuses
returns-clause-refuses c = refuses_exactly

pub returns-clause-answered : goal.returns-clause-answered
returns-clause-answered c = each_answered

pub returns-clause-never_both : goal.returns-clause-never_both
returns-clause-never_both c = never_both

pub returns-clause-one_reading : goal.returns-clause-one_reading
returns-clause-one_reading c = one_reading

pub returns-clause-one_refusal : goal.returns-clause-one_refusal
returns-clause-one_refusal c = one_refusal

pub returns-clause-adds_one : goal.returns-clause-adds_one
returns-clause-adds_one c = clauses_with-one

pub returns-clause-never_memory : goal.returns-clause-never_memory
returns-clause-never_memory c = never_memory

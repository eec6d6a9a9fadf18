-- The laws of reading are lemmas.
use Rattle.solid_lang.proofs.Theorems.{each_text_is_answered, none_is_read_and_refused, one_reading, one_refusal, reading_is_exact}
use Rattle.solid_lang.proofs.laws.solid_reading_is_exact.Goals as goal

pub returns-clause-reads : goal.returns-clause-reads
returns-clause-reads c = reading_is_exact

pub returns-clause-one_reading : goal.returns-clause-one_reading
returns-clause-one_reading c = one_reading

pub returns-clause-answered : goal.returns-clause-answered
returns-clause-answered c = each_text_is_answered

pub returns-clause-never_both : goal.returns-clause-never_both
returns-clause-never_both c = none_is_read_and_refused

pub returns-clause-one_refusal : goal.returns-clause-one_refusal
returns-clause-one_refusal c = one_refusal

-- The laws of judging are lemmas.
use Rattle.solid_lang.proofs.JudgingLemmas.{each_judged, none_judged_and_refused, one_count, one_fault}
use Rattle.solid_lang.proofs.laws.solid_judging_is_exact.Goals as goal

pub returns-clause-judged : goal.returns-clause-judged
returns-clause-judged c = each_judged

pub returns-clause-never_both : goal.returns-clause-never_both
returns-clause-never_both c = none_judged_and_refused

pub returns-clause-one_count : goal.returns-clause-one_count
returns-clause-one_count c = one_count

pub returns-clause-one_fault : goal.returns-clause-one_fault
returns-clause-one_fault c = one_fault

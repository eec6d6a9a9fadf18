-- The laws of whole lists are lemmas.
use Rattle.live_clauses.proofs.Theorems.{live_lists_are_whole, root_lists_are_whole, whole_lists_need_each_step, whole_lists_stand}
use Rattle.live_clauses.proofs.laws.live_lists_are_whole.Goals as goal

pub returns-clause-needed : goal.returns-clause-needed
returns-clause-needed c = whole_lists_need_each_step

pub returns-clause-live : goal.returns-clause-live
returns-clause-live c = live_lists_are_whole

pub returns-clause-root : goal.returns-clause-root
returns-clause-root c = root_lists_are_whole

pub returns-clause-stand : goal.returns-clause-stand
returns-clause-stand c = whole_lists_stand

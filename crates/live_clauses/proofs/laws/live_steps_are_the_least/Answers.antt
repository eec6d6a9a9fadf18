-- The laws of live steps are lemmas.
use Rattle.live_clauses.proofs.Theorems.{live_lists_are_tapes, live_steps_are_kept, representatives_are_chosen}
use Rattle.live_clauses.proofs.laws.live_steps_are_the_least.Goals as goal

pub returns-clause-representatives : goal.returns-clause-representatives
returns-clause-representatives c = representatives_are_chosen

pub returns-clause-least : goal.returns-clause-least
returns-clause-least c = live_steps_are_kept

pub returns-clause-lists : goal.returns-clause-lists
returns-clause-lists c = live_lists_are_tapes

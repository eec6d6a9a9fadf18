-- The laws of meanings are lemmas.
use Rattle.live_clauses.proofs.MeaningLaws.{meaning_at-step}
use Rattle.live_clauses.proofs.Keeping.{live_of-meaning}
use Rattle.live_clauses.proofs.RootLaws.{root_of-meaning}
use Rattle.live_clauses.proofs.laws.live_lists_keep_meanings.Goals as goal

pub returns-clause-steps : goal.returns-clause-steps
returns-clause-steps g c = λ m steps reads stand place step at. meaning_at-step m reads steps place step stand at

pub returns-clause-live : goal.returns-clause-live
returns-clause-live g c = λ m steps choices reads tape choose means. live_of-meaning steps choices tape choose m reads means

pub returns-clause-root : goal.returns-clause-root
returns-clause-root g c = λ m clauses reads model. root_of-meaning m reads clauses model

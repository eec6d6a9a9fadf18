-- The laws of counts are lemmas.
use Rattle.interval_ops.proofs.HullCountLaws.{CountsHulls-apart, CountsHulls-none, CountsHulls-then}
use Rattle.interval_ops.proofs.laws.hull_counts.Goals as goal

pub returns-clause-none : goal.returns-clause-none
returns-clause-none c = CountsHulls-none

pub returns-clause-add : goal.returns-clause-add
returns-clause-add c = CountsHulls-then

pub returns-clause-join : goal.returns-clause-join
returns-clause-join c = CountsHulls-apart

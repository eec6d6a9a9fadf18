-- The laws of values with their slopes are lemmas.
use Rattle.live_clauses.proofs.SlopeLaws.{root_has_the_slopes, sloped_at-reads, slopes_stand_by_values}
use Rattle.live_clauses.proofs.laws.values_have_slopes.Goals as goal

pub returns-clause-operands : goal.returns-clause-operands
returns-clause-operands c = sloped_at-reads

pub returns-clause-values : goal.returns-clause-values
returns-clause-values c = slopes_stand_by_values

pub returns-clause-root : goal.returns-clause-root
returns-clause-root c = root_has_the_slopes

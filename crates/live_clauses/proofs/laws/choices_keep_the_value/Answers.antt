use Rattle.live_clauses.proofs.Theorems.{choices_keep_the_value}
use Rattle.live_clauses.proofs.laws.choices_keep_the_value.Goals as goal

pub returns : goal.returns
returns c = choices_keep_the_value

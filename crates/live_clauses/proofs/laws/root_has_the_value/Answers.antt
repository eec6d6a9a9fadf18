use Rattle.live_clauses.proofs.Theorems.{root_has_the_value}
use Rattle.live_clauses.proofs.laws.root_has_the_value.Goals as goal

pub returns : goal.returns
returns c = root_has_the_value

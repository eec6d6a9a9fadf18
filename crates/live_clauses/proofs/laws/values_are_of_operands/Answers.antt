use Rattle.live_clauses.proofs.Theorems.{values_are_of_operands}
use Rattle.live_clauses.proofs.laws.values_are_of_operands.Goals as goal

pub returns : goal.returns
returns c = values_are_of_operands

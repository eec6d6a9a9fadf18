use Rattle.oct_descent.proofs.WayProofs.{ways_go_on_is}
use Rattle.box_chains.proofs.Theorems.{laws}
use Rattle.oct_descent.proofs.laws.ways_go_on.Goals as goal

pub returns : goal.returns
returns c = ways_go_on_is laws

use Rattle.oct_descent.proofs.GridLaws.{grids_hold_is}
use Rattle.box_chains.proofs.Theorems.{laws}
use Rattle.oct_descent.proofs.laws.grids_hold.Goals as goal

pub returns : goal.returns
returns c = grids_hold_is laws

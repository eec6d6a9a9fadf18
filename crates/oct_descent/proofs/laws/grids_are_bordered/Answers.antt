use Rattle.oct_descent.proofs.Blocks.{grids_are_bordered_is}
use Rattle.oct_descent.proofs.laws.grids_are_bordered.Goals as goal

pub returns : goal.returns
returns c = grids_are_bordered_is

use Rattle.oct_descent.proofs.Reached.{reached_boxes_counted}
use Rattle.box_chains.proofs.Theorems.{laws}
use Rattle.oct_descent.proofs.laws.reached_boxes_are_counted_once.Goals as goal

pub returns : goal.returns
returns c = reached_boxes_counted laws

use Rattle.oct_descent.proofs.AfterBounds.{meshes_after_add_up_is}
use Rattle.oct_descent.proofs.AfterWork.{boxes_after_add_up_is}
use Rattle.box_chains.proofs.Theorems.{laws}
use Rattle.oct_descent.proofs.laws.meshes_after_add_up.Goals as goal

pub returns-clause-boxes : goal.returns-clause-boxes
returns-clause-boxes c = boxes_after_add_up_is laws

pub returns-clause-meshes : goal.returns-clause-meshes
returns-clause-meshes c = meshes_after_add_up_is laws

use Rattle.oct_descent.proofs.NewCells.{mesh_boxes_are_counted_once_is, new_boxes_are_counted_once_is, old_boxes_are_a_set_is}
use Rattle.box_chains.proofs.Theorems.{laws}
use Rattle.oct_descent.proofs.laws.new_boxes_are_counted_once.Goals as goal

pub returns-clause-old : goal.returns-clause-old
returns-clause-old c = old_boxes_are_a_set_is laws

pub returns-clause-new : goal.returns-clause-new
returns-clause-new c = new_boxes_are_counted_once_is laws

pub returns-clause-meshes : goal.returns-clause-meshes
returns-clause-meshes c = mesh_boxes_are_counted_once_is laws

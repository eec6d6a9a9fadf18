use Rattle.std.proofs.Common.{refl}
use Rattle.mesh_tests.proofs.GridExamples.{lists_lone_cell, lone_cell}
use Rattle.mesh_tests.proofs.meshes.lone_cell.Goals as goal

pub returns : goal.returns
returns c = (lone_cell, lists_lone_cell _ refl c.new.ensures.items)

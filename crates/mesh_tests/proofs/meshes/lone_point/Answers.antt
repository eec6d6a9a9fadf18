use Rattle.std.proofs.Common.{refl}
use Rattle.mesh_tests.proofs.GridExamples.{lists_lone_point, lone_point}
use Rattle.mesh_tests.proofs.meshes.lone_point.Goals as goal

pub returns : goal.returns
returns c = (lone_point, lists_lone_point c.from_raw-i.result c.from_raw-a.result c.from_raw-f.result c.from_raw-b.result _ c.from_raw-i.ensures c.from_raw-a.ensures c.from_raw-f.ensures c.from_raw-b.ensures refl c.in_ok-cells.ensures.items)

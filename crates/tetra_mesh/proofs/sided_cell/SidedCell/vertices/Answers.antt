-- The directions to the other side are counted.
use Rattle.std.proofs.Common.{ap, arith, ◌∙◌}
use Rattle.std.specs.Int.RustNames.{count_ones}
use Rattle.tetra_mesh.proofs.Bits.{seven_ones}
use Rattle.tetra_mesh.proofs.SideLaws.{vertices_counted}
use Rattle.tetra_mesh.proofs.sided_cell.SidedCell.vertices.Goals as goal

pub returns-clause-exact : goal.returns-clause-exact
returns-clause-exact c cell same = ap count_ones c.mask.ensures ∙ vertices_counted c.args.self.now cell same

pub returns-clause-few : goal.returns-clause-few
returns-clause-few c = seven_ones c.args.self.now.signs c.mask.result c.mask.ensures (omega arith)

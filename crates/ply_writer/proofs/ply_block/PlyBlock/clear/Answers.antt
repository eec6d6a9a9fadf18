-- Nothing stands behind the end of the block.
use Rattle.std.proofs.Common.{arith}
use Rattle.std.proofs.lemmas.List.{drop_all}
use Rattle.ply_writer.proofs.ply_block.PlyBlock.clear.Goals as goal

pub returns-clause-none : goal.returns-clause-none
returns-clause-none c = drop_all 65481 c.self.inside.block.items (omega (arith, c.self.invariant.full))

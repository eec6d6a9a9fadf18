-- The values are read at the two ends.
use Rattle.plane_loops.proofs.ReadLaws.{vertex_read}
use Rattle.plane_loops.proofs.numbering.vertex.Goals as goal

pub returns : goal.returns
returns c =
    vertex_read c.args.n c.args.values.now c.args.place c.args.dir _ _ _ _ _ c.requires.values c.requires.place c.from-along_x.ensures c.from-along_y.ensures c.index-values-y.is c.index-values-y-2.is c.way_up.ensures.value

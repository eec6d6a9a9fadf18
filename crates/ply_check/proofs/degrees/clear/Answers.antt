-- The edges of one arc less.
use Rattle.std.proofs.Common.{arith, length}
use Rattle.ply_check.proofs.DegreeLaws.{degrees_less, none}
use Rattle.ply_check.proofs.degrees.clear.Goals as goal

pub loop-arc-preserved : goal.loop-arc-preserved
loop-arc-preserved c =
    degrees_less (length c.args.to.now) c.args.arcs.now c.loop-arc.arc-index none c.loop-arc.to c.loop-arc.back (omega arith) (c.requires.within c.loop-arc.arc-index none (omega arith)) c.loop-arc.invariant

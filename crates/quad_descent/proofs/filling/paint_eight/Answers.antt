use Rattle.quad_descent.proofs.Eights.{eight-painted}
use Rattle.quad_descent.proofs.filling.paint_eight.Goals as goal

pub returns : goal.returns
returns c = eight-painted c.args.bits c.args.from c.args.pixels.now c.ranges.bits.fits c.requires

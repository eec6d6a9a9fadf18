use Rattle.std.proofs.Common.{ap, ◌∙◌}
use Rattle.raster_pgm.specs.Samples.{samples_header_of}
use Rattle.raster_pgm.proofs.Heads.{image_head}
use Rattle.raster_pgm.proofs.head.pgm_head.Goals as goal

pub returns-clause-image : goal.returns-clause-image
returns-clause-image c = λ is. c.push_counts.ensures.head ∙ ap (samples_header_of c.args.w c.args.h) is ∙ image_head c.args.w c.args.h

use Rattle.box_chains.proofs.LawProofs.{samples_are_told_is}
use Rattle.box_chains.proofs.laws.samples_are_told.Goals as goal

pub returns : goal.returns
returns c = samples_are_told_is c.layers_hold.ensures.layers

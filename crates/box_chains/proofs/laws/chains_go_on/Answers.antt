use Rattle.box_chains.proofs.LawProofs.{chains_go_on_is}
use Rattle.box_chains.proofs.laws.chains_go_on.Goals as goal

pub returns : goal.returns
returns c = chains_go_on_is c.layers_hold.ensures.layers

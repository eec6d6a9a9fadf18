use Rattle.box_chains.proofs.BoxLaws.{boxes_are_counted_once_is}
use Rattle.box_chains.proofs.laws.boxes_are_counted_once.Goals as goal

pub returns : goal.returns
returns c = boxes_are_counted_once_is c.halves_part.ensures

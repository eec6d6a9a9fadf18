-- The law of halves is a lemma.
use Rattle.view_places.proofs.BoxLaws.{halves_part_is}
use Rattle.view_places.proofs.laws.halves_part.Goals as goal

pub returns : goal.returns
returns c = halves_part_is

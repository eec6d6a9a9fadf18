-- The law is a lemma.
use Rattle.plane_loops.proofs.LeftLaws.{inside_is_left}
use Rattle.plane_loops.proofs.laws.inside_is_left.Goals as goal

pub returns : goal.returns
returns c = inside_is_left

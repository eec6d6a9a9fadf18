-- The law is a lemma.
use Rattle.plane_loops.proofs.Closing.{contours_are_closed}
use Rattle.plane_loops.proofs.laws.contours_are_closed.Goals as goal

pub returns : goal.returns
returns c = contours_are_closed

use Rattle.model_frames.proofs.Closed.{texts_closed}
use Rattle.model_frames.proofs.laws.contour_texts_are_closed.Goals as goal

pub returns : goal.returns
returns c = texts_closed

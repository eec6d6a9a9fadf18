use Rattle.path_writer.proofs.Apart.{contours_lie_apart}
use Rattle.path_writer.proofs.laws.contours_lie_apart.Goals as goal

pub returns : goal.returns
returns c = contours_lie_apart

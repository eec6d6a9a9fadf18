use Rattle.path_writer.proofs.Contours.{contours_have_paths}
use Rattle.path_writer.proofs.laws.contours_have_paths.Goals as goal

pub returns : goal.returns
returns c = contours_have_paths

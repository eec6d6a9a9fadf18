use Rattle.contour_lines.proofs.FlatLaws.{flat_views_are_planes_is}
use Rattle.contour_lines.proofs.laws.flat_view.Goals as goal

pub returns-clause-points : goal.returns-clause-points
returns-clause-points c = flat_views_are_planes_is

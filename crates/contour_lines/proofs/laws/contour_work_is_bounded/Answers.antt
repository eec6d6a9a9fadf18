use Rattle.std.proofs.Common.{refl}
use Rattle.contour_lines.specs.Planes.{laid_flat}
use Rattle.contour_lines.proofs.FlatLaws.{flat_views_are_views_is}
use Rattle.contour_lines.proofs.Work.{points_bounded, spans_bounded}
use Rattle.contour_lines.proofs.Theorems.{planes}
use Rattle.contour_lines.proofs.laws.contour_work_is_bounded.Goals as goal

pub returns-clause-points : goal.returns-clause-points
returns-clause-points c = λ view list window tape. points_bounded planes (laid_flat view) list (flat_views_are_views_is view window) tape

pub returns-clause-spans : goal.returns-clause-spans
returns-clause-spans c = λ view list window tape. spans_bounded planes (laid_flat view) list refl (flat_views_are_views_is view window) tape

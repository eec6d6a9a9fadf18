-- The grid over a view is bordered.
use Rattle.contour_lines.proofs.Joins.{planes_are_bordered}
use Rattle.contour_lines.proofs.laws.borders_are_outside.Goals as goal

pub returns-clause-planes : goal.returns-clause-planes
returns-clause-planes c = planes_are_bordered

use Rattle.normal_shade.proofs.Bounds.{points_bounded, spans_bounded}
use Rattle.normal_shade.proofs.laws.shade_work_is_bounded.Goals as goal

pub returns-clause-points : goal.returns-clause-points
returns-clause-points c = points_bounded c.layers_hold.ensures

pub returns-clause-spans : goal.returns-clause-spans
returns-clause-spans c = spans_bounded c.layers_hold.ensures

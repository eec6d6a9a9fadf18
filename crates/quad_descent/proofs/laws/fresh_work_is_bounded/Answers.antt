use Rattle.quad_descent.proofs.Bounds.{points_bounded, spans_bounded}
use Rattle.quad_descent.proofs.laws.fresh_work_is_bounded.Goals as goal

pub returns-clause-points : goal.returns-clause-points
returns-clause-points c = points_bounded c.work_adds_up.ensures.points_bounded

pub returns-clause-spans : goal.returns-clause-spans
returns-clause-spans c = spans_bounded c.work_adds_up.ensures.spans_bounded

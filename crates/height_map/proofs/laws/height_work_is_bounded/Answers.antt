use Rattle.height_map.proofs.Bounds.{points_bounded, spans_bounded}
use Rattle.height_map.proofs.laws.height_work_is_bounded.Goals as goal

pub returns-clause-points : goal.returns-clause-points
returns-clause-points c = points_bounded c.tested_work_adds_up.ensures c.work_adds_up.ensures.points_bounded

pub returns-clause-spans : goal.returns-clause-spans
returns-clause-spans c = spans_bounded c.work_adds_up.ensures.spans_bounded

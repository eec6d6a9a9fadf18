use Rattle.quad_descent.proofs.Bounds.{frame_work_is}
use Rattle.quad_descent.proofs.laws.frame_work_is_bounded.Goals as goal

pub returns : goal.returns
returns c = frame_work_is c.redrawn_work_adds_up.ensures

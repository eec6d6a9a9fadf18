use Rattle.oct_descent.proofs.Bounds.{points_bounded, spans_bounded}
use Rattle.box_chains.proofs.Theorems.{laws}
use Rattle.oct_descent.proofs.laws.grid_work_is_bounded.Goals as goal

pub returns-clause-points : goal.returns-clause-points
returns-clause-points c = points_bounded laws

pub returns-clause-spans : goal.returns-clause-spans
returns-clause-spans c = spans_bounded laws

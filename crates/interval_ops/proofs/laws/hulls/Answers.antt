-- The laws of hulls are lemmas.
use Rattle.interval_ops.proofs.HullLaws.{hull_of_is_hull, hull_once, IsSpan-hull}
use Rattle.interval_ops.proofs.laws.hulls.Goals as goal

pub returns-clause-hold : goal.returns-clause-hold
returns-clause-hold c = hull_of_is_hull

pub returns-clause-only : goal.returns-clause-only
returns-clause-only c = hull_once

pub returns-clause-spans : goal.returns-clause-spans
returns-clause-spans c = IsSpan-hull

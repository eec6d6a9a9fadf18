-- The laws of quotients are lemmas.
use Rattle.fixed_ops.proofs.RoundingLaws.{rounded_is_clamped, rounded_down_once, over_zero_is}
use Rattle.fixed_ops.proofs.laws.quotients.Goals as goal

pub returns-clause-hold : goal.returns-clause-hold
returns-clause-hold c = rounded_is_clamped

pub returns-clause-only : goal.returns-clause-only
returns-clause-only c = rounded_down_once

pub returns-clause-by_zero : goal.returns-clause-by_zero
returns-clause-by_zero c = over_zero_is

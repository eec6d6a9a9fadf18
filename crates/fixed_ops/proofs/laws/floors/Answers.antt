-- The laws of floors are lemmas.
use Rattle.fixed_ops.proofs.RoundingLaws.{floor_div_is_floor}
use Rattle.fixed_ops.proofs.RoundingLaws.{floor_is}
use Rattle.fixed_ops.proofs.laws.floors.Goals as goal

pub returns-clause-hold : goal.returns-clause-hold
returns-clause-hold c = floor_div_is_floor

pub returns-clause-only : goal.returns-clause-only
returns-clause-only c = floor_is

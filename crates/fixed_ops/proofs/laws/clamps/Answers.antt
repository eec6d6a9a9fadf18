-- The law of clamps is a lemma.
use Rattle.fixed_ops.proofs.RoundingLaws.{clamp_is}
use Rattle.fixed_ops.proofs.laws.clamps.Goals as goal

pub returns : goal.returns
returns c = clamp_is

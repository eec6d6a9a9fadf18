-- The laws of tallies are lemmas.
use Rattle.fixed_ops.proofs.CountLaws.{tallies_add_up_is}
use Rattle.fixed_ops.proofs.laws.tallies_add_up.Goals as goal

pub returns : goal.returns
returns c = tallies_add_up_is

-- The law is a lemma.
use Rattle.edit_script.proofs.ReasonLemmas.{reasons-lowest}
use Rattle.edit_script.proofs.laws.reasons_are_lowest.Goals as goal

pub returns : goal.returns
returns c = reasons-lowest

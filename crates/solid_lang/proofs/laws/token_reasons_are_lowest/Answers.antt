-- The law is a lemma.
use Rattle.solid_lang.proofs.ReasonLemmas.{token-lowest}
use Rattle.solid_lang.proofs.laws.token_reasons_are_lowest.Goals as goal

pub returns : goal.returns
returns c = token-lowest

-- The law is a lemma.
use Rattle.view_settings.proofs.ReasonLaws.{word-reasons-lowest}
use Rattle.view_settings.proofs.laws.word_reasons_are_lowest.Goals as goal

pub returns : goal.returns
returns c = word-reasons-lowest

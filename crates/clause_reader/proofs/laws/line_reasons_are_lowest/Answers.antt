-- The law is a lemma.
use Rattle.clause_reader.proofs.ReasonLemmas.{line-reasons-lowest}
use Rattle.clause_reader.proofs.laws.line_reasons_are_lowest.Goals as goal

pub returns : goal.returns
returns c = line-reasons-lowest

-- The law of spellings is a lemma.
use Rattle.fixed_ops.proofs.SpellingLaws.{spelled_value}
use Rattle.fixed_ops.proofs.laws.spelled_values.Goals as goal

pub returns : goal.returns
returns c = spelled_value

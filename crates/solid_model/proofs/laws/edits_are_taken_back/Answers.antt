-- The law of inverses is a lemma.
use Rattle.solid_model.proofs.InverseLemmas.{taken-back}
use Rattle.solid_model.proofs.laws.edits_are_taken_back.Goals as goal

pub returns : goal.returns
returns c = taken-back

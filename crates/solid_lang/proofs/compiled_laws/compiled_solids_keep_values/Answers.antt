-- The law is a lemma, over the law of steps.
use Rattle.solid_lang.proofs.MeaningLemmas.{compiled_keep}
use Rattle.solid_lang.proofs.compiled_laws.compiled_solids_keep_values.Goals as goal

pub returns : goal.returns
returns c = compiled_keep

-- The laws are lemmas.
use Rattle.solid_lang.proofs.MeaningLemmas.{length-compiled}
use Rattle.solid_lang.proofs.ModelLemmas.{compiled_is_model, compiled_text_is_read}
use Rattle.solid_lang.proofs.compiled_laws.compiled_solids_are_models.Goals as goal

pub returns-clause-counted : goal.returns-clause-counted
returns-clause-counted c = length-compiled

pub returns-clause-models : goal.returns-clause-models
returns-clause-models c = compiled_is_model

pub returns-clause-read : goal.returns-clause-read
returns-clause-read c = compiled_text_is_read

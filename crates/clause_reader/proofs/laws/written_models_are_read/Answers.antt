-- The laws of written models are lemmas.
use Rattle.clause_reader.proofs.ReadBack.{model_text_is_read, written_models_are_said}
use Rattle.clause_reader.proofs.laws.written_models_are_read.Goals as goal

pub returns-clause-read : goal.returns-clause-read
returns-clause-read c = model_text_is_read

pub returns-clause-said : goal.returns-clause-said
returns-clause-said c = written_models_are_said

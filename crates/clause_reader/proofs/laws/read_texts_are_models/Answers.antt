-- The laws are lemmas.
use Rattle.clause_reader.proofs.ReadModels.{read-texts-are-models, said-forms-are-forms, tokens-may-name}
use Rattle.clause_reader.proofs.laws.read_texts_are_models.Goals as goal

pub returns-clause-models : goal.returns-clause-models
returns-clause-models c = read-texts-are-models

pub returns-clause-forms : goal.returns-clause-forms
returns-clause-forms c = said-forms-are-forms

pub returns-clause-names : goal.returns-clause-names
returns-clause-names c = tokens-may-name

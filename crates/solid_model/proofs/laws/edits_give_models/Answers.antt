-- The laws of edits are lemmas.
use Rattle.solid_model.proofs.NamedLemmas.{placed_named}
use Rattle.solid_model.proofs.SurgeryModels.{edits-models}
use Rattle.solid_model.proofs.laws.edits_give_models.Goals as goal

pub returns-clause-places : goal.returns-clause-places
returns-clause-places c = placed_named

pub returns-clause-models : goal.returns-clause-models
returns-clause-models c = edits-models

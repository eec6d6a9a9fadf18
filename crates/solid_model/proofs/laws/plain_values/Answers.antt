-- The laws of plain values are lemmas.
use Rattle.solid_model.proofs.ValueLemmas.{AreValues-values, values-only, values-raw}
use Rattle.solid_model.proofs.laws.plain_values.Goals as goal

pub returns-clause-hold : goal.returns-clause-hold
returns-clause-hold c = AreValues-values

pub returns-clause-only : goal.returns-clause-only
returns-clause-only c = values-only

pub returns-clause-raw : goal.returns-clause-raw
returns-clause-raw c = values-raw

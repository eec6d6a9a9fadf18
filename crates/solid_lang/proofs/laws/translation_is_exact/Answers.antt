-- The laws of translating are lemmas.
use Rattle.solid_lang.proofs.Translations.{refusals_stand, solids_are_translated, translations_keep_values}
use Rattle.solid_lang.proofs.laws.translation_is_exact.Goals as goal

pub returns-clause-solids : goal.returns-clause-solids
returns-clause-solids c = solids_are_translated

pub returns-clause-refusals : goal.returns-clause-refusals
returns-clause-refusals c = refusals_stand

pub returns-clause-values : goal.returns-clause-values
returns-clause-values c = translations_keep_values

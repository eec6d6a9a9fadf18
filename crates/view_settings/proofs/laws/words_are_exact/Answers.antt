-- The laws of words are lemmas.
use Rattle.view_settings.proofs.GrammarLaws.{given_settings, refused_word}
use Rattle.view_settings.proofs.laws.words_are_exact.Goals as goal

pub returns-clause-given : goal.returns-clause-given
returns-clause-given c = given_settings

pub returns-clause-refused : goal.returns-clause-refused
returns-clause-refused c = refused_word

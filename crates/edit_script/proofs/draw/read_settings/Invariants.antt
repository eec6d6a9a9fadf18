-- The settings so far, with the words that are left, are those of all words.
use Rattle.std.proofs.Common.{length}
use Rattle.edit_script.proofs.SettingLemmas.{Takes}
use Rattle.edit_script.proofs.draw.read_settings.Given as goal

abbrev pub invariant-loop-word : goal.invariant-loop-word
invariant-loop-word l = Takes l.fn.verb l.fn.tokens l.settings l.tokens

abbrev pub decreases-loop-word : goal.decreases-loop-word
decreases-loop-word l = length l.tokens

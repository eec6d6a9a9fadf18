-- The words so far, with the tokens that are left, are those of the line.
use Rattle.std.proofs.Common.{length}
use Rattle.view_settings.specs.Words.{bytes_of}
use Rattle.modeller_c.proofs.WordLemmas.{Takes}
use Rattle.modeller_c.proofs.words.words_of.Given as goal

abbrev pub invariant-loop-token : goal.invariant-loop-token
invariant-loop-token l = Takes l.fn.line (bytes_of l.words.items) l.tokens

abbrev pub decreases-loop-token : goal.decreases-loop-token
decreases-loop-token l = length l.tokens

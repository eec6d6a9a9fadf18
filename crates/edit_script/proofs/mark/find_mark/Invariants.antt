-- The lines so far are no mark lines, and the others are those of the rest.
use Rattle.std.proofs.Common.{length}
use Rattle.edit_script.proofs.MarkLemmas.{Passed}
use Rattle.edit_script.proofs.mark.find_mark.Given as goal

abbrev pub invariant-loop-rest : goal.invariant-loop-rest
invariant-loop-rest l = Passed l.input l.place l.rest

abbrev pub decreases-loop-rest : goal.decreases-loop-rest
decreases-loop-rest l = length l.rest

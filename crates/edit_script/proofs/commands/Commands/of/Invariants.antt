-- The lines so far say commands, and the others are left.
use Rattle.std.proofs.Common.{length}
use Rattle.edit_script.proofs.ScriptLemmas.{Checks}
use Rattle.edit_script.proofs.commands.Commands.of.Given as goal

abbrev pub invariant-loop-line : goal.invariant-loop-line
invariant-loop-line l = Checks l.input l.lines

abbrev pub decreases-loop-line : goal.decreases-loop-line
decreases-loop-line l = length l.lines

-- The lines so far say the commands, and the others are left.
use Rattle.std.proofs.Common.{All, length}
use Rattle.edit_script.specs.Commands.{IsCommand}
use Rattle.edit_script.proofs.ScriptLemmas.{Reads}
use Rattle.edit_script.proofs.script.read_script.Given as goal

abbrev pub invariant-loop-line : goal.invariant-loop-line
invariant-loop-line l = record {
  reads : Reads l.input l.commands.items l.lines;
  keeps : All IsCommand l.commands.items;
}

abbrev pub decreases-loop-line : goal.decreases-loop-line
decreases-loop-line l = length l.lines

-- The lines so far were read, and the others are left.
use Rattle.std.proofs.Common.{length}
use Rattle.clause_reader.proofs.LineSteps.{Reads}
use Rattle.clause_reader.proofs.reader.read_model.Given as goal

abbrev pub invariant-loop-line : goal.invariant-loop-line
invariant-loop-line l = Reads l.text l.builder l.lines

abbrev pub decreases-loop-line : goal.decreases-loop-line
decreases-loop-line l = length l.lines

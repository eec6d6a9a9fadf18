-- The lines so far are not given, and the others are those of the rest.
use Rattle.std.proofs.Common.{◌≡◌, ◌+◌, ◌<◌, ◌^◌, length}
use Rattle.clause_reader.specs.Lines.{lines_of}
use Rattle.clause_reader.specs.NumberedLines.{given_from}
use Rattle.clause_reader.proofs.lines.split_line.Given as goal

abbrev pub invariant-loop-rest : goal.invariant-loop-rest
invariant-loop-rest l = record {
  same : given_from l.comments (l.passed + 1) (lines_of l.text) ≡ given_from l.comments (l.number + 1) (lines_of l.rest);
  few : l.number + length l.rest < 2 ^ 32;
}

abbrev pub decreases-loop-rest : goal.decreases-loop-rest
decreases-loop-rest l = length l.rest

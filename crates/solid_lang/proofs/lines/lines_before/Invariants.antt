use Rattle.std.proofs.Common.{◌≡◌, ◌+◌, ◌*◌, ◌≤◌, ◌++◌, drop, length}
use Rattle.solid_lang.specs.StepLines.{step_lines}
use Rattle.solid_lang.proofs.lines.lines_before.Given as goal

abbrev pub invariant-loop-i : goal.invariant-loop-i
invariant-loop-i l = record {
  room : l.i * 37 ≤ l.start;
  before : l.start ≤ l.end;
  full : length l.block ≡ length l.fn.block;
  written : drop l.start l.block ≡ step_lines (l.place + l.i) (drop l.i l.steps) ++ drop l.end l.fn.block;
}

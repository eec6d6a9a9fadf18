-- The lines so far led to a stage, and no more of them say a property than there are.
use Rattle.std.proofs.Common.{◌+◌, ◌<◌, ◌^◌, length}
use Rattle.ply_check.specs.declared.stage.Stage.TheVariants.{Opened}
use Rattle.ply_check.specs.Answers.{header_answer, width_at}
use Rattle.ply_check.specs.Passes.{Passes}
use Rattle.ply_check.proofs.header.read_header.Given as goal

abbrev pub invariant-loop-line : goal.invariant-loop-line
invariant-loop-line l = record {
  passed : Passes (header_answer Opened) (header_answer l.stage) l.initial.lines l.lines;
  room : width_at l.stage + length l.lines < 2 ^ 32;
}

abbrev pub decreases-loop-line : goal.decreases-loop-line
decreases-loop-line l = length l.lines

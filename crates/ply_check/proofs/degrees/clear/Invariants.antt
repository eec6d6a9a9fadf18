use Rattle.std.proofs.Common.{drop, length}
use Rattle.ply_check.specs.Arcs.{pairs}
use Rattle.ply_check.specs.Degrees.{AreDegrees}
use Rattle.ply_check.proofs.degrees.clear.Given as goal

abbrev pub invariant-loop-arc : goal.invariant-loop-arc
invariant-loop-arc l = AreDegrees (length l.initial.to) (pairs (drop l.arc-index l.arcs)) l.to l.back

use Rattle.std.proofs.Common.{take}
use Rattle.ply_check.specs.Degrees.{IsLeastUnpaired}
use Rattle.ply_check.proofs.degrees.least_unpaired.Given as goal

abbrev pub invariant-loop-arc : goal.invariant-loop-arc
invariant-loop-arc l = IsLeastUnpaired l.to l.back (take l.arc-index l.arcs) l.first l.least

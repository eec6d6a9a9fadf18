-- The law is a lemma.
use Rattle.plane_loops.proofs.LongLaws.{loops_are_long}
use Rattle.plane_loops.proofs.laws.loops_are_long.Goals as goal

pub returns : goal.returns
returns c = loops_are_long

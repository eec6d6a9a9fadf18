-- The law is a lemma.
use Rattle.mesh_laws.proofs.FanLaws.{have_one_cycle}
use Rattle.mesh_laws.proofs.laws.one_cycle.Goals as goal

pub returns : goal.returns
returns c = have_one_cycle

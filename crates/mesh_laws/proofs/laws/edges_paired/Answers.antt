-- The law is a lemma.
use Rattle.mesh_laws.proofs.ClosedLaws.{edges_are_paired}
use Rattle.mesh_laws.proofs.laws.edges_paired.Goals as goal

pub returns : goal.returns
returns c = edges_are_paired

-- The law is a lemma.
use Rattle.ply_check.proofs.VerdictLaws.{meshes_are_found_closed}
use Rattle.ply_check.proofs.laws.mesh_checks.Goals as goal

pub returns : goal.returns
returns c = meshes_are_found_closed

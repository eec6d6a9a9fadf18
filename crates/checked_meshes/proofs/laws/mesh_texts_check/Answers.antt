-- The law is a lemma.
use Rattle.checked_meshes.proofs.Meshes.{texts_check}
use Rattle.checked_meshes.proofs.laws.mesh_texts_check.Goals as goal

pub returns : goal.returns
returns c = texts_check

-- The law is a lemma.
use Rattle.checked_meshes.proofs.Texts.{written_read}
use Rattle.checked_meshes.proofs.laws.written_meshes_are_read.Goals as goal

pub returns : goal.returns
returns c =
    written_read

-- The law is a lemma.
use Rattle.ply_check.proofs.Bounds.{files_small}
use Rattle.ply_check.proofs.laws.files_are_small.Goals as goal

pub returns : goal.returns
returns c = files_small

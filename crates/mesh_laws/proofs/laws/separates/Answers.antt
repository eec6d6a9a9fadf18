-- The law is made of lemmas.
use Rattle.mesh_laws.proofs.Theorems.{separates}
use Rattle.mesh_laws.proofs.laws.separates.Goals as goal

pub returns : goal.returns
returns c = separates

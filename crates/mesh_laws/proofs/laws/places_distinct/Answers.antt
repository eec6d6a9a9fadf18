-- Vertices whose places or lines are equal are equal.
use Rattle.mesh_laws.proofs.Theorems.{places_are_distinct}
use Rattle.mesh_laws.proofs.laws.places_distinct.Goals as goal

pub returns : goal.returns
returns c = places_are_distinct

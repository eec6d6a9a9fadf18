-- The laws are lemmas.
use Rattle.kuhn_cells.proofs.FaceLaws.{numbers_are_places, triangles_have_vertices}
use Rattle.kuhn_cells.proofs.laws.triangles_have_vertices.Goals as goal

pub returns-clause-triangles : goal.returns-clause-triangles
returns-clause-triangles c = triangles_have_vertices

pub returns-clause-numbers : goal.returns-clause-numbers
returns-clause-numbers c = numbers_are_places

-- The laws are lemmas.
use Rattle.kuhn_cells.proofs.EdgeLaws.{edges_are_mixed, edges_have_directions}
use Rattle.kuhn_cells.proofs.laws.edges_part_the_corners.Goals as goal

pub returns-clause-directions : goal.returns-clause-directions
returns-clause-directions c = edges_have_directions

pub returns-clause-mixed : goal.returns-clause-mixed
returns-clause-mixed c = edges_are_mixed

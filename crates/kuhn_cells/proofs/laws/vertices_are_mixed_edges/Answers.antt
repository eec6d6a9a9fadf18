-- The laws are lemmas.
use Rattle.kuhn_cells.proofs.OrderLaws.{vertices_rise}
use Rattle.kuhn_cells.proofs.VertexLaws.{vertices_are_mixed_edges}
use Rattle.kuhn_cells.proofs.laws.vertices_are_mixed_edges.Goals as goal

pub returns-clause-edges : goal.returns-clause-edges
returns-clause-edges c = vertices_are_mixed_edges

pub returns-clause-order : goal.returns-clause-order
returns-clause-order c = vertices_rise

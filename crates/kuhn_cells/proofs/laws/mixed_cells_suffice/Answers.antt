-- The laws are lemmas.
use Rattle.kuhn_cells.proofs.CellLaws.{cells_are_few, cells_are_of_the_grid, cells_have_triangles, cells_have_vertices, cells_rise, edges_have_cells}
use Rattle.kuhn_cells.proofs.laws.mixed_cells_suffice.Goals as goal

pub returns-clause-cells : goal.returns-clause-cells
returns-clause-cells c = cells_are_of_the_grid

pub returns-clause-order : goal.returns-clause-order
returns-clause-order c = cells_rise

pub returns-clause-few : goal.returns-clause-few
returns-clause-few c = cells_are_few

pub returns-clause-vertices : goal.returns-clause-vertices
returns-clause-vertices c = cells_have_vertices

pub returns-clause-triangles : goal.returns-clause-triangles
returns-clause-triangles c = cells_have_triangles

pub returns-clause-edges : goal.returns-clause-edges
returns-clause-edges c = edges_have_cells

-- The mixed cells of a grid suffice.
use Rattle.tetra_mesh.proofs.GridLaws.{cells_of_grid, mesh_of_cells}
use Rattle.tetra_mesh.proofs.laws.cells_make_meshes.Goals as goal

pub returns-clause-meshes : goal.returns-clause-meshes
returns-clause-meshes c = mesh_of_cells

pub returns-clause-cells : goal.returns-clause-cells
returns-clause-cells c = cells_of_grid

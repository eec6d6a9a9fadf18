-- The mixed cells of a grid make its mesh.
use Rattle.std.specs.Prelude.{◌≡◌, flat_map}
use Rattle.kuhn_cells.specs.Cells.{IsBordered, mixed_cells}
use Rattle.kuhn_cells.specs.Grids.{Grid, grid_size}
use Rattle.kuhn_cells.specs.Sizes.{IsBounded}
use Rattle.tetra_mesh.specs.Cuts.{mesh_of}
use Rattle.tetra_mesh.specs.Numbering.{AreCells, all_faces, vertices_on}

-- the mesh of a grid whose outermost layer is outside has the vertices and the faces of the mixed cells
abbrev pub CellsMakeMeshes : Type 0
CellsMakeMeshes = (g : Grid) → IsBordered g
    → mesh_of g ≡ record {
      vertices = flat_map vertices_on (mixed_cells g);
      faces = all_faces (mixed_cells g) (mixed_cells g);
    }

-- the mixed cells of such a grid, which is bounded, have what their faces need
abbrev pub MixedCellsAreCells : Type 0
MixedCellsAreCells = (g : Grid) → IsBounded (grid_size g) → IsBordered g
    → AreCells (grid_size g) (mixed_cells g)

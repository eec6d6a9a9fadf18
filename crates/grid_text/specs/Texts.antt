-- The text of the mesh of a grid.
use Rattle.std.specs.Prelude.{◌≡◌, ℕ, ◌≤◌, List, ◌++◌, All, drop, flat_map, length, map}
use Rattle.kuhn_cells.specs.declared.cell_list.CellValues.{CellValues}
use Rattle.kuhn_cells.specs.Cells.{IsCellOf, mixed_cells}
use Rattle.live_clauses.specs.declared.step.Step.{Step}
use Rattle.oct_descent.specs.GridValues.{list_grid}
use Rattle.ply_writer.specs.Blocks.{Piece}
use Rattle.ply_writer.specs.Ply.{face_line, ply_of, vertex_line}
use Rattle.tetra_mesh.specs.declared.sided_cell.SidedCell.{SidedCell}
use Rattle.tetra_mesh.specs.Cuts.{mesh_of}
use Rattle.tetra_mesh.specs.Numbering.{all_faces, vertices_on}
use Rattle.tetra_mesh.specs.Sides.{AreSidesOf, sided_of}
use Rattle.tetra_mesh.specs.Walks.{Walk}
use Rattle.view_places.specs.Window.{Window}

-- the text of the mesh of the grid of a list over a view
abbrev pub text_of : Window → List Step → List ℕ
text_of view list = let mesh = mesh_of (list_grid view list) in ply_of view mesh.vertices mesh.faces

-- the mixed cells of that grid
abbrev pub cells_of : Window → List Step → List CellValues
cells_of view list = mixed_cells (list_grid view list)

-- some mixed cells of that grid have these places and sides
pub record AreCellsOf (view : Window) (list : List Step) (cells : List CellValues)
    (sided : List SidedCell) : Type 0 where
  pub sides : sided ≡ map sided_of cells
  pub each : All (IsCellOf (list_grid view list)) cells

-- the lines of the vertices of all cells but the first ones, and of the faces of all but the first ones
abbrev pub lines_left : Window → List Step → ℕ → ℕ → List ℕ
lines_left view list lined made =
    let cells = cells_of view list in
    flat_map (vertex_line view) (flat_map vertices_on (drop lined cells))
    ++ flat_map face_line (all_faces cells (drop made cells))

-- what the next piece needs: a block over the view, and the places and sides of all mixed cells
pub record IsWriting (view : Window) (list : List Step) (walk : Walk) (lined : ℕ)
    (block : Piece) : Type 0 where
  pub over : block.view ≡ view
  pub cells : AreCellsOf view list (cells_of view list) walk.sided
  pub sides : AreSidesOf walk.n (cells_of view list) walk.sided
  pub within : lined ≤ length walk.sided

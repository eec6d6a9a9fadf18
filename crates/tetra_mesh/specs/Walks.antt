-- Walks over the mixed cells of a grid.
use Rattle.std.specs.Prelude.{ℕ, ◌≤◌, List, length}
use Rattle.kuhn_cells.specs.declared.grid_size.GridSize.{GridSize}
use Rattle.tetra_mesh.specs.Numbering.{HasReached, IsNumbered}
use Rattle.tetra_mesh.specs.Shapes.{AreShapes}
use Rattle.tetra_mesh.specs.Sides.{HaveCells, OfCells}
use Rattle.tetra_mesh.specs.declared.numbering.Numbering.{Numbering}
use Rattle.tetra_mesh.specs.declared.shapes.Shapes.{Shapes}
use Rattle.tetra_mesh.specs.declared.sided_cell.SidedCell.{SidedCell}

-- the places and sides of the mixed cells of a grid, and of how many of them the faces are made
pub record Walk : Type 0 where
  pub n : GridSize
  pub sided : List SidedCell
  pub made : ℕ

-- what the faces of the next cells need: the cells that lie near to those are numbered
pub record CanGoOn (numbering : Numbering) (shapes : Shapes) (sided : List SidedCell)
    (made : ℕ) : Type 0 where
  pub cells : HaveCells numbering.n sided
  pub within : made ≤ length sided
  pub numbered : OfCells numbering.n sided (λ cells. IsNumbered cells numbering.n numbering)
  pub reached : OfCells numbering.n sided (λ cells. HasReached cells numbering.ahead made)
  pub tables : AreShapes sided shapes

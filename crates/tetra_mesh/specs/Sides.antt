-- Cells by their places and sides alone.
use Rattle.std.specs.Prelude.{◌≡◌, ℕ, ◌+◌, ◌-◌, ◌%◌, ◌==◌, List, flat_map, map, set, if◌then◌else◌}
use Rattle.std.specs.Int.RustNames.{count_ones}
use Rattle.kuhn_cells.specs.declared.cell_list.CellValues.{CellValues}
use Rattle.kuhn_cells.specs.declared.grid_size.GridSize.{GridSize}
use Rattle.kuhn_cells.specs.Cells.{IsBordered, mixed_cells}
use Rattle.kuhn_cells.specs.Grids.{Grid}
use Rattle.tetra_mesh.specs.declared.numbering.Numbering.{Numbering}
use Rattle.tetra_mesh.specs.declared.sided_cell.SidedCell.{SidedCell}
use Rattle.tetra_mesh.specs.declared.vertex.Vertex.{Vertex}
use Rattle.tetra_mesh.specs.Numbering.{AreCells, signs_of, slot_of, vertices_on}

-- the place of a cell, and which of its corners are inside
abbrev pub sided_of : CellValues → SidedCell
sided_of c = record { x = c.x; y = c.y; z = c.z; signs = signs_of c }

-- which corners are not on the side of the lowest one, by which are inside
abbrev pub mask_by : ℕ → ℕ
mask_by signs = if signs % 2 == 1 then 255 - signs else signs

-- mixed cells, listed by their places and sides
pub record AreSidesOf (n : GridSize) (cells : List CellValues) (sided : List SidedCell) : Type 0 where
  pub mixed : AreCells n cells
  pub sides : sided ≡ map sided_of cells

-- places and sides are those of some mixed cells
abbrev pub HaveCells : GridSize → List SidedCell → Type 0
HaveCells n sided = (cells : List CellValues) × AreSidesOf n cells sided

-- a fact of the mixed cells that have these places and sides
abbrev pub OfCells : GridSize → List SidedCell → (List CellValues → Type 0) → Type 0
OfCells n sided P = (cells : List CellValues) → AreSidesOf n cells sided → P cells

-- The mixed cells of a grid of so many cells along each axis, whose outermost layer is outside, have
-- these vertices and these places and sides.
pub record HasParts (n : GridSize) (g : Grid) (vertices : List Vertex) (sided : List SidedCell) : Type 0 where
  pub x : g.x ≡ n.x
  pub y : g.y ≡ n.y
  pub z : g.z ≡ n.z
  pub border : IsBordered g
  pub on_edges : vertices ≡ flat_map vertices_on (mixed_cells g)
  pub sides : sided ≡ map sided_of (mixed_cells g)

-- one more cell is numbered
pub record Numbers (c : SidedCell) (old new : Numbering) : Type 0 where
  pub width : new.n ≡ old.n
  pub ahead : new.ahead ≡ old.ahead + 1
  pub vertices : new.vertices ≡ old.vertices + count_ones (mask_by c.signs)
  pub slots : new.slots.items
      ≡ set old.slots.items (slot_of old.n c.x c.y c.z)
      (record { base = old.vertices; mask = mask_by c.signs })

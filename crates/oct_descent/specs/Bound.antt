-- The work that the cells of a grid take at most.
use Rattle.std.specs.Prelude.{ℕ, ◌+◌, ◌≤◌, Bool, ◌&&◌, nat_le, List, [], ◌∷◌, length, min, if◌then◌else◌}
use Rattle.std.specs.List.{sum_by}
use Rattle.box_chains.specs.Chains.{Visit, is_long}
use Rattle.box_chains.specs.Counts.{first_lengths, is_first}
use Rattle.box_chains.specs.Sums.{Sample, maximum, sum_in}
use Rattle.box_chains.specs.Tallied.{CountsAtMost}
use Rattle.fixed_ops.specs.Counts.{Counts, RisesBy}
use Rattle.kuhn_cells.specs.Grids.{over_block}
use Rattle.kuhn_cells.specs.Triangles.{GridPoint, point}
use Rattle.kuhn_cells.specs.declared.grid_size.GridSize.{GridSize}
use Rattle.live_clauses.specs.declared.step.Step.{Step}
use Rattle.view_places.specs.Boxes.{Indices}
use Rattle.view_places.specs.Window.{Window, size_of}
use Rattle.oct_descent.specs.Ways.{CellDescent, gridded, is_working, way, way_end, grid_root}

-- The steps that are traced over a box of cells and the boxes below it: the lengths of the lists
-- that the boxes on the ways to its cells receive. A box is on the way to each of its cells, and is
-- counted at the first.
unfoldable pub cell_spans_in : CellDescent → Visit → ℕ
cell_spans_in d v = sum_in v.box (λ s. first_lengths s (way d v s))

-- what the boxes of a grid take at most
abbrev pub mesh_spans : Window → List Step → ℕ
mesh_spans view list = cell_spans_in (gridded view) (grid_root view list)

-- the lengths of the lists of those boxes of more than one cell that have a cell as their first
abbrev pub long_lengths : CellDescent → Sample → List Visit → ℕ
long_lengths d s visits =
    sum_by (λ v. if is_long d.boxes.leaf v.box && is_first v.box s then length v.list else 0) visits

-- the steps that are traced over those boxes of more than one cell
unfoldable pub long_spans_in : CellDescent → Visit → ℕ
long_spans_in d v = sum_in v.box (λ s. long_lengths d s (way d v s))

-- What the boxes of a grid take at least: each box of more than one cell on the way to a cell is
-- traced. A cell alone need not be, where its known corners tell enough.
abbrev pub mesh_long_spans : Window → List Step → ℕ
mesh_long_spans view list = long_spans_in (gridded view) (grid_root view list)

-- a cell, as what a way leads to
abbrev pub sample_of : GridPoint → Sample
sample_of p = record { i = p.x; j = p.y; k = p.z }

-- a box covers a point, also one at its upper ends
abbrev pub has_point : Indices → GridPoint → Bool
has_point b p =
    nat_le b.x0 p.x && (nat_le p.x b.x1
    && (nat_le b.y0 p.y && (nat_le p.y b.y1 && (nat_le b.z0 p.z && nat_le p.z b.z1))))

-- the length of the list that a working cell receives, and 0 for another cell
abbrev pub length_in : CellDescent → Visit → GridPoint → ℕ
length_in d v cell =
    if is_working d v (sample_of cell) then length (way_end d v (sample_of cell)).list else 0

-- the lengths of the lists that those working cells receive that have a point as a corner
abbrev pub lengths_in : GridSize → CellDescent → Visit → GridPoint → List ℕ
lengths_in n d v p =
    over_block n.x n.y n.z
    (λ cell. if has_point (d.cell (sample_of cell)) p then length_in d v cell ∷ [] else [])

-- those of the grid of a mesh
abbrev pub lengths_at : Window → List Step → GridPoint → List ℕ
lengths_at view list = lengths_in (size_of view) (gridded view) (grid_root view list)

-- the box of all points of a grid
abbrev pub points_of_grid : GridSize → Indices
points_of_grid n =
    record { x0 = 0; x1 = n.x + 1; y0 = 0; y1 = n.y + 1; z0 = 0; z1 = n.z + 1 }

-- What the points of a grid take at most: each one the length of the longest list that a working
-- cell receives that has it as a corner.
unfoldable pub mesh_points : Window → List Step → ℕ
mesh_points view list =
    sum_in (points_of_grid (size_of view)) (λ s. maximum (lengths_at view list (point s.i s.j s.k)))

-- the least of some numbers, 0 where there is none
abbrev pub least : List ℕ → ℕ
least [] = 0
least (n ∷ []) = n
least (n ∷ m ∷ ns) = min n (least (m ∷ ns))

-- the lengths of the lists that those working cells receive that have a point as a corner, and none
-- for another cell
abbrev pub working_lengths_in : GridSize → CellDescent → Visit → GridPoint → List ℕ
working_lengths_in n d v p =
    over_block n.x n.y n.z (λ cell.
    if has_point (d.cell (sample_of cell)) p && is_working d v (sample_of cell)
    then length (way_end d v (sample_of cell)).list ∷ []
    else [])

-- those of the grid of a mesh
abbrev pub working_lengths : Window → List Step → GridPoint → List ℕ
working_lengths view list = working_lengths_in (size_of view) (gridded view) (grid_root view list)

-- What the points of a grid take at least: each corner of a working cell the length of the shortest
-- list that a working cell receives that has it as a corner.
unfoldable pub mesh_least : Window → List Step → ℕ
mesh_least view list =
    sum_in (points_of_grid (size_of view)) (λ s. least (working_lengths view list (point s.i s.j s.k)))

-- a tally rises by at least so many evaluations
pub record CountsAtLeast (points : ℕ) (before after : Counts) : Type 0 where
  pub by : Counts
  pub many : points ≤ by.points
  pub rises : RisesBy before after by

-- a tally rises by at least so many hulls
pub record CountsHullsAtLeast (spans : ℕ) (before after : Counts) : Type 0 where
  pub by : Counts
  pub many : spans ≤ by.spans
  pub rises : RisesBy before after by

-- a tally rises by evaluations alone, and by no hull
pub record CountsNoHull (before after : Counts) : Type 0 where
  pub points : ℕ
  pub counts : CountsAtMost points 0 before after

-- What a mesh takes that comes after another over the same view: the work of those working cells and
-- of those boxes on the ways to the cells that the other mesh did not have, with an equal list, on the
-- ways to the same cells.
use Rattle.std.specs.Prelude.{ℕ, Bool, not, ◌&&◌, List, [], ◌∷◌, length, Option, Some, None, if◌then◌else◌}
use Rattle.std.specs.List.{sum_by}
use Rattle.box_chains.specs.Chains.{Visit, handed_on, is_long, visit}
use Rattle.box_chains.specs.Counts.{is_first}
use Rattle.box_chains.specs.Redrawn.{Ways, frame_before, is_old, new_spans}
use Rattle.box_chains.specs.Sums.{Sample, maximum, sum_in}
use Rattle.kuhn_cells.specs.Grids.{over_block}
use Rattle.kuhn_cells.specs.Triangles.{GridPoint, point}
use Rattle.kuhn_cells.specs.declared.grid_size.GridSize.{GridSize}
use Rattle.live_clauses.specs.declared.step.Step.{Step}
use Rattle.view_places.specs.Boxes.{Indices}
use Rattle.view_places.specs.Window.{Window, size_of}
use Rattle.oct_descent.specs.Bound.{has_point, least, points_of_grid, sample_of}
use Rattle.oct_descent.specs.Ways.{CellDescent, grid_root, gridded, is_cut, is_working, way, way_end}

-- the boxes on the ways to the cells in the mesh before, from a box that it reached; there are none
-- where it did not reach it, or where there is no such mesh
abbrev pub ways_before : CellDescent → Option Visit → Ways
ways_before d None s = []
ways_before d (Some v) s = way d v s

-- the list that the mesh before handed on from a box to its halves, where it reached and split the box
abbrev pub handed_before : CellDescent → Option Visit → Option (List Step)
handed_before d None = None
handed_before d (Some v) = if is_cut d v then Some (handed_on d.boxes v) else None

-- a half of a box in the mesh before, where that box handed on a list
abbrev pub received_half : Option (List Step) → Indices → Option Visit
received_half None half = None
received_half (Some list) half = Some (visit half list)

-- a half of a box in the mesh before, which reached it where it split the box
abbrev pub half_before : CellDescent → Option Visit → Indices → Option Visit
half_before d before half = received_half (handed_before d before) half

-- The steps that are traced over a box of cells and the boxes below it where they are not old. A box is
-- on the way to each of its cells, and is counted at the first.
unfoldable pub cell_spans_after : CellDescent → Option Visit → Visit → ℕ
cell_spans_after d before v = new_spans (ways_before d before) (way d v) v.box

-- the box of all cells in the mesh before, which received its root list, where there is such a mesh
abbrev pub mesh_before : Window → Option (List Step) → Option Visit
mesh_before view before = frame_before (gridded view).boxes before

-- What the boxes of a grid take at most, after a mesh over the same view of another list, or after none.
abbrev pub mesh_spans_after : Window → Option (List Step) → List Step → ℕ
mesh_spans_after view before list =
    cell_spans_after (gridded view) (mesh_before view before) (grid_root view list)

-- the lengths of the lists of those boxes of more than one cell that are not old, and have a cell as
-- their first
abbrev pub new_long_lengths : CellDescent → List Visit → Sample → List Visit → ℕ
new_long_lengths d before s visits =
    sum_by
    (λ v. if is_old before v then 0
    else if is_long d.boxes.leaf v.box && is_first v.box s then length v.list else 0)
    visits

-- the steps that are traced over those boxes of more than one cell that are not old
unfoldable pub long_spans_after : CellDescent → Option Visit → Visit → ℕ
long_spans_after d before v =
    sum_in v.box (λ s. new_long_lengths d (ways_before d before s) s (way d v s))

-- What the boxes of a grid take at least: each box of more than one cell on the way to a cell is
-- traced where it is not old.
abbrev pub mesh_long_spans_after : Window → Option (List Step) → List Step → ℕ
mesh_long_spans_after view before list =
    long_spans_after (gridded view) (mesh_before view before) (grid_root view list)

-- a cell is old where the last box on the way to it is old
abbrev pub is_old_cell : CellDescent → Option Visit → Visit → Sample → Bool
is_old_cell d before v s = is_old (ways_before d before s) (way_end d v s)

-- a working cell is new where it is not old
abbrev pub is_new_working : CellDescent → Option Visit → Visit → Sample → Bool
is_new_working d before v s = is_working d v s && not (is_old_cell d before v s)

-- the length of the list that a working cell receives that is new, and 0 for another cell
abbrev pub new_length_in : CellDescent → Option Visit → Visit → GridPoint → ℕ
new_length_in d before v cell =
    if is_new_working d before v (sample_of cell) then length (way_end d v (sample_of cell)).list else 0

-- the lengths of the lists that those new working cells receive that have a point as a corner
abbrev pub new_lengths_in : GridSize → CellDescent → Option Visit → Visit → GridPoint → List ℕ
new_lengths_in n d before v p =
    over_block n.x n.y n.z
    (λ cell. if has_point (d.cell (sample_of cell)) p then new_length_in d before v cell ∷ [] else [])

-- those of the grid of a mesh
abbrev pub new_lengths_at : Window → Option (List Step) → List Step → GridPoint → List ℕ
new_lengths_at view before list =
    new_lengths_in (size_of view) (gridded view) (mesh_before view before) (grid_root view list)

-- What the points of a grid take at most, after a mesh over the same view of another list, or after
-- none: each one the length of the longest list that a new working cell receives that has it as a corner.
unfoldable pub mesh_points_after : Window → Option (List Step) → List Step → ℕ
mesh_points_after view before list =
    sum_in (points_of_grid (size_of view))
    (λ s. maximum (new_lengths_at view before list (point s.i s.j s.k)))

-- What a cell takes at least at each of its corners: an old cell nothing, since the value may be known
-- from before, and a working cell that is new the length of the list that it receives. Another cell has
-- no say.
abbrev pub least_at_corners : CellDescent → Option Visit → Visit → Sample → List ℕ
least_at_corners d before v s =
    if is_old_cell d before v s then 0 ∷ []
    else if is_working d v s then length (way_end d v s).list ∷ []
    else []

-- what those cells of the grid of a mesh take that have a point as a corner
abbrev pub least_lengths_at : Window → Option (List Step) → List Step → GridPoint → List ℕ
least_lengths_at view before list p =
    let n = size_of view in
    over_block n.x n.y n.z (λ cell.
    if has_point ((gridded view).cell (sample_of cell)) p
    then least_at_corners (gridded view) (mesh_before view before) (grid_root view list) (sample_of cell)
    else [])

-- What the points of a grid take at least, after a mesh over the same view of another list, or after
-- none: each corner of a new working cell the length of the shortest list that such a cell receives that
-- has it as a corner, and a corner of an old cell nothing.
unfoldable pub mesh_least_after : Window → Option (List Step) → List Step → ℕ
mesh_least_after view before list =
    sum_in (points_of_grid (size_of view)) (λ s. least (least_lengths_at view before list (point s.i s.j s.k)))

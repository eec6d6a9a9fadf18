-- What always holds of grids of lists and of the work that their cells take.
use Rattle.std.specs.Prelude.{◌≡◌, ◌≢◌, ◌+◌, ◌*◌, ◌<◌, ◌≤◌, List, [], ◌∷◌, length, if◌then◌else◌}
use Rattle.std.specs.List.{AllPairs, Contains, flat_map, range_with_len, sum_by}
use Rattle.box_chains.specs.Chains.{Visit, handed_on, is_long, next_visit, visit}
use Rattle.box_chains.specs.Sums.{LiesIn, Sample}
use Rattle.kuhn_cells.specs.Cells.{IsBordered, mixed_cells}
use Rattle.live_clauses.specs.Steps.{IsTape}
use Rattle.live_clauses.specs.declared.step.Step.{Step}
use Rattle.view_places.specs.Boxes.{IsBox, halves_of}
use Rattle.view_places.specs.Window.{Window, IsWindow, size_of}
use Rattle.oct_descent.specs.Bound.{long_spans_in, mesh_points, mesh_spans, cell_spans_in}
use Rattle.oct_descent.specs.GridValues.{list_grid}
use Rattle.oct_descent.specs.Rows.{cells_in_layer}
use Rattle.oct_descent.specs.Ways.{CellDescent, is_cut, way}

-- every point of the outermost layer of a list's grid is outside
abbrev pub GridsAreBordered : Type 0
GridsAreBordered = (view : Window) (list : List Step) → IsBordered (list_grid view list)

-- the points take no more evaluations than the list has steps, at each of them
abbrev pub MeshPointsAreBounded : Type 0
MeshPointsAreBounded = (view : Window) (list : List Step) → IsWindow view → IsTape list
    → let n = size_of view in
    mesh_points view list ≤ (n.x + 1) * ((n.y + 1) * (n.z + 1)) * length list

-- and no more steps are traced than the list has, for each cell and each side of the boxes that hold it
abbrev pub MeshSpansAreBounded : Type 0
MeshSpansAreBounded = (view : Window) (list : List Step) → IsWindow view → IsTape list
    → let n = size_of view in
    mesh_spans view list ≤ n.x * (n.y * n.z) * ((n.x + n.y + n.z) * length list)

-- the way to a cell goes on from a box that is split into the half that holds the cell, and ends
-- elsewhere
abbrev pub WaysGoOn : Type 0
WaysGoOn = (d : CellDescent) (v : Visit) (s : Sample) → 0 < d.boxes.leaf → IsBox v.box → LiesIn v.box s
    → way d v s ≡ v ∷ (if is_cut d v then way d (next_visit d.boxes v s) s else [])

-- the steps traced over a box of cells are those of its own list, and where it is split those of its
-- halves too, which receive what it hands on
abbrev pub MeshSpansAddUp : Type 0
MeshSpansAddUp = (d : CellDescent) (v : Visit) → 0 < d.boxes.leaf → IsBox v.box
    → cell_spans_in d v ≡ length v.list + (if is_cut d v then sum_by
    (λ half. cell_spans_in d (visit half (handed_on d.boxes v))) (halves_of d.boxes.leaf v.box) else 0)

-- and those traced over boxes of more than one cell are those of its own list, where it is one, and of
-- its halves
abbrev pub LongMeshSpansAddUp : Type 0
LongMeshSpansAddUp = (d : CellDescent) (v : Visit) → 0 < d.boxes.leaf → IsBox v.box
    → long_spans_in d v ≡ (if is_long d.boxes.leaf v.box then length v.list else 0)
    + (if is_cut d v then sum_by (λ half. long_spans_in d (visit half (handed_on d.boxes v)))
    (halves_of d.boxes.leaf v.box) else 0)

-- a box is on the way to some cell
pub record IsOnWay (d : CellDescent) (v w : Visit) : Type 0 where
  pub cell : Sample
  pub lies : LiesIn v.box cell
  pub on : Contains (way d v cell) w

-- There is a list of exactly the boxes on the ways to the cells, none of them twice, and the lists
-- that they receive are together as long as the steps that are traced.
pub record CountsReachedOnce (d : CellDescent) (v : Visit) : Type 0 where
  pub boxes : List Visit
  pub different : AllPairs (λ a b. a.box ≢ b.box) boxes
  pub each : (w : Visit) → Contains boxes w → IsOnWay d v w
  pub all : (w : Visit) → IsOnWay d v w → Contains boxes w
  pub sum : cell_spans_in d v ≡ sum_by (λ w. length w.list) boxes

abbrev pub ReachedBoxesAreCountedOnce : Type 0
ReachedBoxesAreCountedOnce = (d : CellDescent) (v : Visit) → 0 < d.boxes.leaf → IsBox v.box
    → CountsReachedOnce d v

-- the mixed cells of a list's grid are those of its layers, one after the other
abbrev pub LayersHaveTheCells : Type 0
LayersHaveTheCells = (view : Window) (list : List Step)
    → flat_map (cells_in_layer view list) (range_with_len 0 (size_of view).z)
    ≡ mixed_cells (list_grid view list)

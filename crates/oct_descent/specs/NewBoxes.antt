-- The boxes of a mesh that comes after another of the same cells: which of them are old, and the others as a list.
use Rattle.std.specs.Prelude.{◌≡◌, ◌≢◌, ◌<◌, true, List, length, Option, Some, None, ◌↔◌, if◌then◌else◌}
use Rattle.std.specs.List.{AllPairs, Contains, sum_by}
use Rattle.live_clauses.specs.declared.step.Step.{Step}
use Rattle.view_places.specs.Boxes.{IsBox}
use Rattle.view_places.specs.Window.{IsWindow, Window}
use Rattle.box_chains.specs.Chains.{Visit, is_long}
use Rattle.box_chains.specs.NewBoxes.{HasTheBox}
use Rattle.box_chains.specs.Redrawn.{is_old}
use Rattle.box_chains.specs.Sums.{LiesIn, Sample}
use Rattle.oct_descent.specs.After.{cell_spans_after, is_new_working, long_spans_after, mesh_before, ways_before}
use Rattle.oct_descent.specs.Laws.{IsOnWay}
use Rattle.oct_descent.specs.Ways.{CellDescent, grid_root, gridded, is_working, way_end}

-- a box was on the way to some cell in the mesh before, and received an equal list there
abbrev pub WasOnWay : CellDescent → Option Visit → Visit → Type 0
WasOnWay d None w = ⊥
WasOnWay d (Some old) w = IsOnWay d old w

-- So old boxes are a set: whether a box is old does not depend on the cell by whose way it is reached.
abbrev pub OldBoxesAreASet : Type 0
OldBoxesAreASet = (d : CellDescent) (before : Option Visit) (v w : Visit) (s : Sample)
    → 0 < d.boxes.leaf → IsBox v.box → HasTheBox before v → LiesIn v.box s → LiesIn w.box s
    → (is_old (ways_before d before s) w ≡ true) ↔ WasOnWay d before w

-- a box is new: it is on the way to some cell, and was on none in the mesh before
pub record IsNewOnWay (d : CellDescent) (before : Option Visit) (v w : Visit) : Type 0 where
  pub on : IsOnWay d v w
  pub new : ¬ (WasOnWay d before w)

-- There is a list of exactly the new boxes, none of them twice. The lists that they receive are together
-- as long as the steps that are traced at most, and those of the boxes of more than one cell as the steps
-- that are traced at least. A working cell takes evaluations where it is one of these boxes.
pub record CountsNewBoxesOnce (d : CellDescent) (before : Option Visit) (v : Visit) : Type 0 where
  pub boxes : List Visit
  pub different : AllPairs (λ a b. a.box ≢ b.box) boxes
  pub each : (w : Visit) → Contains boxes w → IsNewOnWay d before v w
  pub all : (w : Visit) → IsNewOnWay d before v w → Contains boxes w
  pub spans : cell_spans_after d before v ≡ sum_by (λ w. length w.list) boxes
  pub long : long_spans_after d before v
      ≡ sum_by (λ w. if is_long d.boxes.leaf w.box then length w.list else 0) boxes
  pub cells : (s : Sample) → LiesIn v.box s → (is_new_working d before v s ≡ true)
      ↔ ((is_working d v s ≡ true) × Contains boxes (way_end d v s))

abbrev pub NewBoxesAreCountedOnce : Type 0
NewBoxesAreCountedOnce = (d : CellDescent) (before : Option Visit) (v : Visit) → 0 < d.boxes.leaf
    → IsBox v.box → HasTheBox before v → CountsNewBoxesOnce d before v

-- those of a mesh that comes after one of another list over the same view, or after none
abbrev pub MeshBoxesAreCountedOnce : Type 0
MeshBoxesAreCountedOnce = (view : Window) (before : Option (List Step)) (list : List Step)
    → IsWindow view → CountsNewBoxesOnce (gridded view) (mesh_before view before) (grid_root view list)

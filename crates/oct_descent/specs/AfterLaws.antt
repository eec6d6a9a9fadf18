-- How the work of a mesh adds up that comes after another.
use Rattle.std.specs.Prelude.{◌≡◌, ℕ, ◌+◌, ◌<◌, ◌≤◌, true, false, List, length, Option, Some, None, ◌↔◌, if◌then◌else◌}
use Rattle.box_chains.specs.Chains.{Visit, handed_on, is_long}
use Rattle.box_chains.specs.Redrawn.{IsNew}
use Rattle.box_chains.specs.Sums.{LiesIn, Sample}
use Rattle.kuhn_cells.specs.Triangles.{GridPoint}
use Rattle.live_clauses.specs.declared.step.Step.{Step}
use Rattle.view_places.specs.Boxes.{IsBox, halves_of}
use Rattle.view_places.specs.Window.{IsWindow, Window}
use Rattle.oct_descent.specs.After.{cell_spans_after, handed_before, long_spans_after, mesh_least_after, mesh_long_spans_after, mesh_points_after, mesh_spans_after}
use Rattle.oct_descent.specs.AfterDesks.{IsEnoughAfter, IsEnoughHalvesAfter, halves_long_spans_after, halves_spans_after}
use Rattle.oct_descent.specs.Bound.{cell_spans_in, long_spans_in, mesh_least, mesh_long_spans, mesh_points, mesh_spans}
use Rattle.oct_descent.specs.Tables.{IsEnough}
use Rattle.oct_descent.specs.Ways.{CellDescent, Covers, is_cut, is_open}

-- How the work of a box adds up. From a box that received an equal list in the mesh before, nothing is
-- taken. A box that is new takes its own trace; and where it is split, what its halves take beside those
-- of the mesh before, which are new as well where that mesh did not split the box. What is enough for a
-- new box that is split is enough for each half beside that of the mesh before, and what is enough for a
-- new working cell is no less than its list at each corner. Without a mesh before, all is taken, and
-- never more than that.
pub record BoxesAfterAddUp : Type 0 where
  pub old_spans : (d : CellDescent) (v : Visit) → 0 < d.boxes.leaf → IsBox v.box
      → cell_spans_after d (Some v) v ≡ 0
  pub old_long : (d : CellDescent) (v : Visit) → 0 < d.boxes.leaf → IsBox v.box
      → long_spans_after d (Some v) v ≡ 0
  pub old_enough : (f : GridPoint → ℕ) (d : CellDescent) (v : Visit) → 0 < d.boxes.leaf → IsBox v.box
      → IsEnoughAfter f d (Some v) v
  pub spans : (d : CellDescent) (before : Option Visit) (v : Visit) → 0 < d.boxes.leaf → IsBox v.box
      → IsNew before v
      → cell_spans_after d before v ≡ length v.list + (if is_cut d v then halves_spans_after d
      (handed_before d before) (handed_on d.boxes v) (halves_of d.boxes.leaf v.box) else 0)
  pub long : (d : CellDescent) (before : Option Visit) (v : Visit) → 0 < d.boxes.leaf → IsBox v.box
      → IsNew before v
      → long_spans_after d before v ≡ (if is_long d.boxes.leaf v.box then length v.list else 0)
      + (if is_cut d v then halves_long_spans_after d (handed_before d before) (handed_on d.boxes v)
      (halves_of d.boxes.leaf v.box) else 0)
  pub enough : (f : GridPoint → ℕ) (d : CellDescent) (before : Option Visit) (v : Visit)
      → 0 < d.boxes.leaf → IsBox v.box → IsNew before v → is_cut d v ≡ true
      → IsEnoughAfter f d before v
      → IsEnoughHalvesAfter f d (handed_before d before) (handed_on d.boxes v)
      (halves_of d.boxes.leaf v.box)
  pub cell : (f : GridPoint → ℕ) (d : CellDescent) (before : Option Visit) (v : Visit)
      → 0 < d.boxes.leaf → IsBox v.box → IsNew before v → is_open d v ≡ true
      → is_long d.boxes.leaf v.box ≡ false → IsEnoughAfter f d before v
      → (s : Sample) → LiesIn v.box s → (p : GridPoint) → Covers (d.cell s) p → length v.list ≤ f p
  pub fresh_spans : (d : CellDescent) (v : Visit) → cell_spans_after d None v ≡ cell_spans_in d v
  pub fresh_long : (d : CellDescent) (v : Visit) → long_spans_after d None v ≡ long_spans_in d v
  pub fresh_enough : (f : GridPoint → ℕ) (d : CellDescent) (v : Visit)
      → IsEnoughAfter f d None v ↔ IsEnough f d v
  pub most_spans : (d : CellDescent) (before : Option Visit) (v : Visit)
      → cell_spans_after d before v ≤ cell_spans_in d v
  pub most_long : (d : CellDescent) (before : Option Visit) (v : Visit)
      → long_spans_after d before v ≤ long_spans_in d v
  pub most_enough : (f : GridPoint → ℕ) (d : CellDescent) (before : Option Visit) (v : Visit)
      → IsEnough f d v → IsEnoughAfter f d before v

-- And that of a mesh. After one of an equal list nothing is taken, without one all is taken, and never
-- more than that.
pub record MeshesAfterAddUp : Type 0 where
  pub same_points : (view : Window) (list : List Step) → IsWindow view
      → mesh_points_after view (Some list) list ≡ 0
  pub same_spans : (view : Window) (list : List Step) → IsWindow view
      → mesh_spans_after view (Some list) list ≡ 0
  pub fresh_points : (view : Window) (list : List Step)
      → mesh_points_after view None list ≡ mesh_points view list
  pub fresh_least : (view : Window) (list : List Step)
      → mesh_least_after view None list ≡ mesh_least view list
  pub fresh_spans : (view : Window) (list : List Step)
      → mesh_spans_after view None list ≡ mesh_spans view list
  pub fresh_long : (view : Window) (list : List Step)
      → mesh_long_spans_after view None list ≡ mesh_long_spans view list
  pub most_points : (view : Window) (before : Option (List Step)) (list : List Step)
      → mesh_points_after view before list ≤ mesh_points view list
  pub most_least : (view : Window) (before : Option (List Step)) (list : List Step)
      → mesh_least_after view before list ≤ mesh_least view list
  pub most_spans : (view : Window) (before : Option (List Step)) (list : List Step)
      → mesh_spans_after view before list ≤ mesh_spans view list

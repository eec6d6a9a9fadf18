-- How much work a fresh image takes, and one that is drawn after another, and which boxes it is for.
use Rattle.std.specs.Prelude.{◌≡◌, ◌+◌, ◌*◌, ◌≤◌, List, Option, Some, None, length}
use Rattle.live_clauses.specs.Steps.{IsTape}
use Rattle.live_clauses.specs.declared.step.Step.{Step}
use Rattle.view_places.specs.Window.{Window, IsWindow}
use Rattle.box_chains.specs.NewBoxes.{CountsNewBoxesOnce}
use Rattle.box_chains.specs.Redrawn.{frame_before}
use Rattle.quad_descent.specs.Raster.{frame_points, frame_spans, fresh_points, fresh_spans, raster, raster_root}

-- no more evaluations than plain evaluation of the list at each sample
abbrev pub FreshPointsAreBounded : Type 0
FreshPointsAreBounded = (view : Window) (list : List Step) → IsWindow view → IsTape list
    → fresh_points view list ≤ view.w * view.h * length list

-- and no more steps traced than the list has, for each sample and each side of the boxes that hold it
abbrev pub FreshSpansAreBounded : Type 0
FreshSpansAreBounded = (view : Window) (list : List Step) → IsWindow view → IsTape list
    → fresh_spans view list ≤ view.w * view.h * ((view.w + view.h + 1) * length list)

-- An image takes no more after another one than a fresh image. Where there is none before it, it is a
-- fresh one, and after one of an equal list it takes nothing.
pub record FrameWorkIsBounded : Type 0 where
  pub most_points : (view : Window) (before : Option (List Step)) (list : List Step)
      → frame_points view before list ≤ fresh_points view list
  pub most_spans : (view : Window) (before : Option (List Step)) (list : List Step)
      → frame_spans view before list ≤ fresh_spans view list
  pub fresh_points_of : (view : Window) (list : List Step)
      → frame_points view None list ≡ fresh_points view list
  pub fresh_spans_of : (view : Window) (list : List Step)
      → frame_spans view None list ≡ fresh_spans view list
  pub same_points : (view : Window) (list : List Step) → IsWindow view
      → frame_points view (Some list) list ≡ 0
  pub same_spans : (view : Window) (list : List Step) → IsWindow view
      → frame_spans view (Some list) list ≡ 0

-- There is a list of exactly the boxes of an image that the image before did not have with an equal list,
-- none of them twice, and the work that is counted is theirs.
abbrev pub NewBoxesAreCountedOnce : Type 0
NewBoxesAreCountedOnce = (view : Window) (before : Option (List Step)) (list : List Step)
    → IsWindow view
    → CountsNewBoxesOnce (raster view) (frame_before (raster view) before) (raster_root view list)

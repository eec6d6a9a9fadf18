-- How much work a height map takes.
use Rattle.std.specs.Prelude.{◌+◌, ◌*◌, ◌≤◌, List, length}
use Rattle.live_clauses.specs.Steps.{IsTape}
use Rattle.live_clauses.specs.declared.step.Step.{Step}
use Rattle.view_places.specs.Window.{Window, IsWindow}
use Rattle.height_map.specs.Bound.{height_points, height_spans}

-- no more evaluations than plain evaluation of the list at each sample
abbrev pub HeightPointsAreBounded : Type 0
HeightPointsAreBounded = (view : Window) (list : List Step) → IsWindow view → IsTape list
    → height_points view list ≤ view.w * view.h * view.d * length list

-- and no more steps traced than the list has, for each sample and each side of the boxes that hold it
abbrev pub HeightSpansAreBounded : Type 0
HeightSpansAreBounded = (view : Window) (list : List Step) → IsWindow view → IsTape list
    → height_spans view list ≤ view.w * view.h * view.d * ((view.w + view.h + view.d) * length list)

-- What always holds of the slopes of lists that are shortened, and of the work of shading.
use Rattle.std.specs.Prelude.{◌≡◌, ◌*◌, ◌≤◌, ℤ, List, length}
use Rattle.fixed_ops.specs.Points.{Point}
use Rattle.fixed_ops.specs.Slopes.{slope_result}
use Rattle.fixed_ops.specs.declared.operation.Op.{Op}
use Rattle.interval_ops.specs.Choices.{choice_of}
use Rattle.interval_ops.specs.Spans.{Interval, Holds}
use Rattle.interval_ops.specs.declared.choice.Choice.TheVariants.{Left, Right}
use Rattle.interval_ops.specs.declared.region.Region.{Region}
use Rattle.live_clauses.specs.declared.step.Step.{Step}
use Rattle.live_clauses.specs.Live.{live_of}
use Rattle.live_clauses.specs.Meanings.{sloped_at, tape_meaning}
use Rattle.live_clauses.specs.Steps.{IsTape}
use Rattle.choice_trace.specs.Hulls.{IsIn, choices_over}
use Rattle.choice_trace.specs.Laws.{AreRanges}
use Rattle.view_places.specs.Window.{Window, IsWindow}
use Rattle.height_map.specs.Bound.{height_spans}
use Rattle.normal_shade.specs.Shades.{shade_points, shade_spans}

-- where the choice is an operand, the slope of the result on a value of each span is that operand's
pub record SlopeIsTaken (op : Op) (a b : Interval) (u v : ℤ) : Type 0 where
  pub left : choice_of op a b ≡ Left → Holds a u → Holds b v
      → (r du dv : ℤ) → slope_result op u v r du dv ≡ du
  pub right : choice_of op a b ≡ Right → Holds a u → Holds b v
      → (r du dv : ℤ) → slope_result op u v r du dv ≡ dv

-- at each point of a region, the live list under the choices over the region has the value and the
-- slopes of the list that it comes from
abbrev pub SlopesAreKept : Type 0
SlopesAreKept = (region : Region) (p : Point) (steps : List Step) → AreRanges region → IsIn region p
    → IsTape steps
    → tape_meaning (sloped_at p) (live_of steps (choices_over region steps))
    ≡ tape_meaning (sloped_at p) steps

-- no more evaluations than ten for each step of the list in each column
abbrev pub ShadePointsAreBounded : Type 0
ShadePointsAreBounded = (view : Window) (list : List Step) → IsWindow view → IsTape list
    → shade_points view list ≤ 10 * (view.h * view.w * length list)

-- and no more steps are traced than a height map takes at most
abbrev pub ShadeSpansAreBounded : Type 0
ShadeSpansAreBounded = (view : Window) (list : List Step) → IsWindow view → IsTape list
    → shade_spans view list ≤ height_spans view list

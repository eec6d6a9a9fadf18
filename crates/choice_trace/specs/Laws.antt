-- What always holds of the hulls of a list.
use Rattle.std.specs.Prelude.{◌≡◌, ℕ, ℤ, List, length, slice_get, Some}
use Rattle.fixed_ops.specs.declared.operation.Op.{Op}
use Rattle.fixed_ops.specs.declared.operation.Op.TheVariants.{X, Y, Z, Const}
use Rattle.interval_ops.specs.Hulls.{IsHull, between}
use Rattle.interval_ops.specs.Spans.{Interval, IsSpan}
use Rattle.interval_ops.specs.declared.region.Region.{Region}
use Rattle.live_clauses.specs.Steps.{AreSteps}
use Rattle.live_clauses.specs.declared.step.Step.{Step}
use Rattle.choice_trace.specs.Hulls.{hull_in, hulls}

-- each range of a region is a span
pub record AreRanges (region : Region) : Type 0 where
  pub x : IsSpan region.x
  pub y : IsSpan region.y
  pub z : IsSpan region.z

-- h is the hull of an operation over a region: the range of the coordinate, the constant alone, or
-- the hull of all results on the values of two spans
abbrev pub IsStepHull : Op → Region → ℤ → Interval → Interval → Interval → Type 0
IsStepHull X region constant a b h = h ≡ region.x
IsStepHull Y region constant a b h = h ≡ region.y
IsStepHull Z region constant a b h = h ≡ region.z
IsStepHull Const region constant a b h = h ≡ between constant constant
IsStepHull op region constant a b h = IsHull op a b h

-- there is one hull for each step, made from the hulls of its operands in the same list
pub record AreHulls (region : Region) (steps : List Step) (all : List Interval) : Type 0 where
  pub as_many : length all ≡ length steps
  pub each : (place : ℕ) (step : Step) → slice_get steps place ≡ Some step
      → IsStepHull step.op region step.value (hull_in all step.a) (hull_in all step.b)
      (hull_in all place)

-- the hulls of a list are such hulls
abbrev pub HullsHold : Type 0
HullsHold = (region : Region) (steps : List Step) → AreRanges region → AreSteps steps
    → AreHulls region steps (hulls region steps)

-- and no other list is
abbrev pub OnlyHullsHold : Type 0
OnlyHullsHold = (region : Region) (steps : List Step) (all : List Interval)
    → AreRanges region → AreSteps steps → AreHulls region steps all → all ≡ hulls region steps

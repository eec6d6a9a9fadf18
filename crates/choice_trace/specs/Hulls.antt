-- The hulls and the choices of a list over a region: each is made from the hulls of its operands.
use Rattle.std.specs.Prelude.{ℕ, ◌-◌, ℤ, List, [], ◌∷◌, ◌++◌, length, map, fold, slice_index_or}
use Rattle.fixed_ops.specs.Points.{Point}
use Rattle.fixed_ops.specs.declared.operation.Op.{Op}
use Rattle.fixed_ops.specs.declared.operation.Op.TheVariants.{X, Y, Z, Const}
use Rattle.interval_ops.specs.Choices.{choice_of}
use Rattle.interval_ops.specs.Hulls.{between, hull_of}
use Rattle.interval_ops.specs.Spans.{Interval, Holds, all_numbers}
use Rattle.interval_ops.specs.declared.choice.Choice.{Choice}
use Rattle.interval_ops.specs.declared.region.Region.{Region}
use Rattle.live_clauses.specs.declared.step.Step.{Step}

-- a point lies in a region: each of its coordinates lies in the range along that axis
pub record IsIn (region : Region) (p : Point) : Type 0 where
  pub x : Holds region.x p.x
  pub y : Holds region.y p.y
  pub z : Holds region.z p.z

-- The hull of an operation over a region from a constant and the hulls of its operands: the range
-- of the coordinate, the constant alone, or the hull of its results.
abbrev pub step_hull : Op → Region → ℤ → Interval → Interval → Interval
step_hull X region constant a b = region.x
step_hull Y region constant a b = region.y
step_hull Z region constant a b = region.z
step_hull Const region constant a b = between constant constant
step_hull op region constant a b = hull_of op a b

-- the hull at a place of some hulls, which past their end is all numbers
abbrev pub hull_in : List Interval → ℕ → Interval
hull_in all place = slice_index_or all place all_numbers

-- the hull of a step from those of the steps before it
abbrev pub hull_after : Region → List Interval → Step → Interval
hull_after region earlier step =
    step_hull step.op region step.value (hull_in earlier step.a) (hull_in earlier step.b)

-- the hulls of all steps, in their order
abbrev pub hulls : Region → List Step → List Interval
hulls region steps =
    fold (λ earlier step. earlier ++ hull_after region earlier step ∷ []) [] steps

-- the hull of the step at a place
abbrev pub hull_at : Region → List Step → ℕ → Interval
hull_at region steps place = hull_in (hulls region steps) place

-- the hull of the last step, which is the list's
abbrev pub tape_hull : Region → List Step → Interval
tape_hull region steps = hull_at region steps (length steps - 1)

-- the choice of a step over the hulls of its operands
abbrev pub choice_over : Region → List Step → Step → Choice
choice_over region steps step =
    choice_of step.op (hull_at region steps step.a) (hull_at region steps step.b)

-- the choices of all steps, in their order
abbrev pub choices_over : Region → List Step → List Choice
choices_over region steps = map (choice_over region steps) steps

-- The branches that minima and maxima take at a point, and the steps whose derivatives the last step's
-- are made of there.
use Rattle.std.specs.Prelude.{ℕ, ℤ, int_le, Bool, List, length, map, if◌then◌else◌}
use Rattle.std.specs.List.{range_with_len}
use Rattle.fixed_ops.specs.Points.{Point}
use Rattle.fixed_ops.specs.declared.operation.Op.{Op}
use Rattle.fixed_ops.specs.declared.operation.Op.TheVariants.{Min, Max}
use Rattle.interval_ops.specs.declared.choice.Choice.{Choice}
use Rattle.interval_ops.specs.declared.choice.Choice.TheVariants.{Left, Right, Both}
use Rattle.live_clauses.specs.Choices.{step_at}
use Rattle.live_clauses.specs.Live.{is_needed}
use Rattle.live_clauses.specs.Steps.{value_at}
use Rattle.live_clauses.specs.declared.step.Step.{Step}

-- the operand whose derivatives the result has, where the operands have these values: the lesser one of a
-- minimum, the greater one of a maximum, the left one of equal ones; other operations choose none
abbrev pub branch : Op → ℤ → ℤ → Choice
branch Min a b = if int_le a b then Left else Right
branch Max a b = if int_le b a then Left else Right
branch op a b = Both

-- the branches of all steps, where the steps have these values
abbrev pub branches_of : List Step → (ℕ → ℤ) → List Choice
branches_of steps value =
    map (λ place. branch (step_at steps place).op
    (value (step_at steps place).a) (value (step_at steps place).b))
    (range_with_len 0 (length steps))

-- the branches that all steps take at a point
abbrev pub branches_at : Point → List Step → List Choice
branches_at p steps = branches_of steps (value_at p steps)

-- whether the last step reaches the step at a place by the branches that are taken at a point
abbrev pub is_reached : Point → List Step → ℕ → Bool
is_reached p steps place = is_needed steps (branches_at p steps) place

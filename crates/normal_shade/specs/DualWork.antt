-- How many evaluations the value of a list and its derivatives at a point take.
use Rattle.std.specs.Prelude.{ℕ, ◌+◌, ◌==◌, ℤ, pos, int_le, int_lt, List, length, if◌then◌else◌, unsigned_abs}
use Rattle.std.specs.List.{range_with_len, sum_by}
use Rattle.fixed_ops.specs.Points.{Point}
use Rattle.fixed_ops.specs.declared.operation.Op.{Op}
use Rattle.fixed_ops.specs.declared.operation.Op.TheVariants.{Neg, Square, Sqrt, Abs, Add, Sub, Mul, Div}
use Rattle.live_clauses.specs.Choices.{step_at}
use Rattle.live_clauses.specs.Steps.{value_at}
use Rattle.live_clauses.specs.declared.step.Step.{Step}
use Rattle.normal_shade.specs.Branches.{is_reached}

-- How many operations the derivatives of a result r along the three axes take, where its operands have the
-- values a and b. A square and a root double one number for all three axes.
abbrev pub derivative_cost : Op → ℤ → ℤ → ℤ → ℕ
derivative_cost Neg a b r = 3
derivative_cost Square a b r = 4
derivative_cost Sqrt a b r = if int_lt (pos 0) r then 4 else 0
derivative_cost Abs a b r = if int_le (pos 0) a then 0 else 3
derivative_cost Add a b r = 3
derivative_cost Sub a b r = 3
derivative_cost Mul a b r = 9
derivative_cost Div a b r = if unsigned_abs b == 0 then 0 else 9
derivative_cost op a b r = 0

-- those of the step at a place of a list
abbrev pub derivative_cost_at : Point → List Step → ℕ → ℕ
derivative_cost_at p steps place =
    derivative_cost (step_at steps place).op (value_at p steps (step_at steps place).a)
    (value_at p steps (step_at steps place).b) (value_at p steps place)

-- those of the steps before a place that the last step reaches
abbrev pub derivatives_below : Point → List Step → ℕ → ℕ
derivatives_below p steps end =
    sum_by (λ place. if is_reached p steps place then derivative_cost_at p steps place else 0)
    (range_with_len 0 end)

-- one evaluation for the value of each step, and those of the derivatives of each step that is reached
unfoldable pub dual_points : Point → List Step → ℕ
dual_points p steps = length steps + derivatives_below p steps (length steps)

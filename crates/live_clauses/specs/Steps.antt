-- Lists of steps, the steps that clauses are, and the values of a list at a point.
use Rattle.std.specs.Prelude.{◌≡◌, ℕ, ◌<◌, ◌≤◌, ◌-◌, ℤ, pos, List, [], ◌∷◌, ◌++◌, length, map, fold, slice_get, slice_index_or, Some}
use Rattle.fixed_ops.specs.Points.{Point, step_value}
use Rattle.fixed_ops.specs.Raw.{IsRaw}
use Rattle.solid_model.specs.declared.clause.Clause.{Clause}
use Rattle.solid_model.specs.Clauses.{FitsAt}
use Rattle.live_clauses.specs.declared.step.Step.{Step}

-- A step at a place: its number is a raw number, the operands that its operation has stand before the place,
-- those that it lacks are 0, and its number is 0 where it is no constant.
pub record IsStepAt (place : ℕ) (step : Step) : Type 0 where
  pub raw : IsRaw step.value
  pub fits : FitsAt place step.op step.a step.b step.value

-- each step may stand at its place, so its operands stand before it
abbrev pub AreSteps : List Step → Type 0
AreSteps steps = (place : ℕ) (step : Step) → slice_get steps place ≡ Some step → IsStepAt place step

-- a list that is evaluated: from 1 to 65,535 such steps
pub record IsTape (steps : List Step) : Type 0 where
  pub some : 0 < length steps
  pub few : length steps ≤ 65535
  pub each : AreSteps steps

-- the value of a step at a point, from the values of the steps before it
abbrev pub value_after : Point → List ℤ → Step → ℤ
value_after p earlier step =
    step_value step.op p step.value
    (slice_index_or earlier step.a (pos 0)) (slice_index_or earlier step.b (pos 0))

-- the values of all steps at a point, in their order
abbrev pub values : Point → List Step → List ℤ
values p steps = fold (λ earlier step. earlier ++ value_after p earlier step ∷ []) [] steps

-- the value of the step at a place
abbrev pub value_at : Point → List Step → ℕ → ℤ
value_at p steps place = slice_index_or (values p steps) place (pos 0)

-- the value of the last step at a point, which is the list's
abbrev pub tape_value : Point → List Step → ℤ
tape_value p steps = value_at p steps (length steps - 1)

-- the step that a clause is, without its name
abbrev pub step_of : Clause → Step
step_of clause = record { op = clause.op; a = clause.a; b = clause.b; value = clause.value }

-- the steps that clauses are, in their order
abbrev pub steps_of : List Clause → List Step
steps_of clauses = map step_of clauses

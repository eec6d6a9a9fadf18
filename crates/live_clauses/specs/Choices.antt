-- Choices between the operands of steps, and where they are right.
use Rattle.std.specs.Prelude.{◌≡◌, ◌≢◌, ℕ, pos, nat_lt, Bool, if◌then◌else◌, List, map, slice_get, slice_index_or, Some}
use Rattle.std.specs.Int.{bit_at}
use Rattle.fixed_ops.specs.declared.operation.Op.TheVariants.{X, Min, Max}
use Rattle.fixed_ops.specs.Points.{Point}
use Rattle.interval_ops.specs.declared.choice.Choice.{Choice}
use Rattle.interval_ops.specs.declared.choice.Choice.TheVariants.{Left, Right, Both}
use Rattle.live_clauses.specs.declared.choice_row.ChoiceRow.{ChoiceRow}
use Rattle.live_clauses.specs.declared.step.Step.{Step}
use Rattle.live_clauses.specs.Steps.{value_at}

-- the step at a place, which past the end is a coordinate
abbrev pub step_at : List Step → ℕ → Step
step_at steps place = slice_index_or steps place (record { op = X; a = 0; b = 0; value = pos 0 })

-- the choice of the step at a place, which past the end is neither operand
abbrev pub choice_at : List Choice → ℕ → Choice
choice_at choices place = slice_index_or choices place Both

-- whether a bit of a byte is set
abbrev pub has_bit : ℕ → ℕ → Bool
has_bit byte bit = nat_lt 0 (bit_at byte bit)

-- the choice in a lane of a row
abbrev pub choice_in : ChoiceRow → ℕ → Choice
choice_in row l =
    if has_bit row.left l then Left else (if has_bit row.right l then Right else Both)

-- the choices in one lane of some rows: of each row the one that stands in it
abbrev pub lane : ℕ → List ChoiceRow → List Choice
lane l rows = map (λ row. choice_in row l) rows

-- choices of some steps: only a minimum and a maximum choose an operand
abbrev pub AreChoices : List Step → List Choice → Type 0
AreChoices steps choices = (place : ℕ) (step : Step)
    → slice_get steps place ≡ Some step → step.op ≢ Min → step.op ≢ Max
    → choice_at choices place ≡ Both

-- Choices are right at a point where each step that chooses its left operand has that operand's
-- value there, and each that chooses its right operand has that one's.
pub record AreRight (p : Point) (steps : List Step) (choices : List Choice) : Type 0 where
  pub left : (place : ℕ) (step : Step) → slice_get steps place ≡ Some step
      → choice_at choices place ≡ Left → value_at p steps place ≡ value_at p steps step.a
  pub right : (place : ℕ) (step : Step) → slice_get steps place ≡ Some step
      → choice_at choices place ≡ Right → value_at p steps place ≡ value_at p steps step.b

-- What steps say at the places where they stand.
use Rattle.std.specs.Prelude.{◌≡◌, ℕ, ◌+◌, ◌<◌, List, Some, slice_get}
use Rattle.solid_model.specs.Clauses.{FitsAt}
use Rattle.solid_lang.specs.declared.axes.Axes.{Axes}
use Rattle.solid_lang.specs.declared.step.Step.{Step}

-- each of the steps that stand from a place on has a property there
abbrev pub Each : (ℕ → Step → Type 0) → ℕ → List Step → Type 0
Each P n steps = (k : ℕ) (step : Step) → slice_get steps k ≡ Some step → P (n + k) step

-- what a step says fits at a place: its operands stand before it
abbrev pub Fits : ℕ → Step → Type 0
Fits place step = FitsAt place step.op step.a step.b step.value

-- the coordinates stand before a place
pub record StandBefore (n : ℕ) (at : Axes) : Type 0 where
  pub x : at.x < n
  pub y : at.y < n
  pub z : at.z < n

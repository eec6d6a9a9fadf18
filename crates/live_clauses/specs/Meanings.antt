-- What the steps of a list mean, whatever a step means: a number at a point, or one with its slopes.
use Rattle.std.specs.Prelude.{◌≡◌, ℕ, ◌≤◌, ◌-◌, ℤ, List, [], ◌∷◌, ◌++◌, length, fold, slice_get, slice_index_or, Some}
use Rattle.fixed_ops.specs.Arity.{arity_of}
use Rattle.fixed_ops.specs.Points.{Point}
use Rattle.fixed_ops.specs.Slopes.{Sloped, flat, step_sloped}
use Rattle.fixed_ops.specs.declared.operation.Op.{Op}
use Rattle.interval_ops.specs.declared.choice.Choice.{Choice}
use Rattle.interval_ops.specs.declared.choice.Choice.TheVariants.{Left, Right}
use Rattle.live_clauses.specs.declared.step.Step.{Step}
use Rattle.live_clauses.specs.Choices.{choice_at}

-- What an operation with its constant means, from what its operands mean, and what a place past the
-- end of a list means.
pub record Meaning (D : Type 0) : Type 0 where
  pub step : Op → ℤ → D → D → D
  pub absent : D

-- an operation means the same whatever is in place of the operands that it lacks
pub record ReadsItsOperands {D : Type 0} (m : Meaning D) : Type 0 where
  pub no_first : (op : Op) (constant : ℤ) (a b other : D) → arity_of op ≡ 0
      → m.step op constant a b ≡ m.step op constant other b
  pub no_second : (op : Op) (constant : ℤ) (a b other : D) → arity_of op ≤ 1
      → m.step op constant a b ≡ m.step op constant a other

-- what a step means, from the meanings of the steps before it
abbrev pub meaning_after : {D : Type 0} → Meaning D → List D → Step → D
meaning_after m earlier step =
    m.step step.op step.value
    (slice_index_or earlier step.a m.absent) (slice_index_or earlier step.b m.absent)

-- the meanings of all steps, in their order
abbrev pub meanings : {D : Type 0} → Meaning D → List Step → List D
meanings m steps = fold (λ earlier step. earlier ++ meaning_after m earlier step ∷ []) [] steps

-- the meaning of the step at a place
abbrev pub meaning_at : {D : Type 0} → Meaning D → List Step → ℕ → D
meaning_at m steps place = slice_index_or (meanings m steps) place m.absent

-- the meaning of the last step, which is the list's
abbrev pub tape_meaning : {D : Type 0} → Meaning D → List Step → D
tape_meaning m steps = meaning_at m steps (length steps - 1)

-- each step that chooses its left operand means what that operand means, and each that chooses its
-- right operand means what that one means
pub record MeanTheirChoices {D : Type 0} (m : Meaning D)
    (steps : List Step) (choices : List Choice) : Type 0 where
  pub left : (place : ℕ) (step : Step) → slice_get steps place ≡ Some step
      → choice_at choices place ≡ Left → meaning_at m steps place ≡ meaning_at m steps step.a
  pub right : (place : ℕ) (step : Step) → slice_get steps place ≡ Some step
      → choice_at choices place ≡ Right → meaning_at m steps place ≡ meaning_at m steps step.b

-- the numbers with their slopes that steps mean at a point
abbrev pub sloped_at : Point → Meaning Sloped
sloped_at p =
    record { step = λ op constant a b. step_sloped op p constant a b; absent = flat }

-- The live list of a list under choices: what its last step needs, numbered anew.
use Rattle.std.specs.Prelude.{◌≡◌, ℕ, zero, suc, ◌+◌, ◌-◌, ◌<◌, ◌==◌, nat_lt, Bool, true, false, ◌&&◌, ◌||◌, if◌then◌else◌, List, [], ◌∷◌, ◌++◌, length, replicate}
use Rattle.fixed_ops.specs.Arity.{arity_of}
use Rattle.solid_model.specs.declared.clause.Clause.{Clause}
use Rattle.interval_ops.specs.declared.choice.Choice.{Choice}
use Rattle.interval_ops.specs.declared.choice.Choice.TheVariants.{Left, Right, Both}
use Rattle.live_clauses.specs.declared.step.Step.{Step}
use Rattle.live_clauses.specs.Choices.{step_at, choice_at}
use Rattle.live_clauses.specs.Steps.{IsTape, steps_of}

-- what a choice takes: what the left operand has, what the right one has, or what the step has itself
abbrev pub chosen : {A : Type 0} → Choice → A → A → A → A
chosen Left left right own = left
chosen Right left right own = right
chosen Both left right own = own

-- the place that stands for a step after so many turns from a step to its chosen operand
abbrev pub represented : ℕ → List Step → List Choice → ℕ → ℕ
represented zero steps choices place = place
represented (suc turns) steps choices place =
    chosen (choice_at choices place)
    (represented turns steps choices (step_at steps place).a)
    (represented turns steps choices (step_at steps place).b) place

-- The representative of a step: that of its left operand under Left, that of its right operand
-- under Right, and the step itself under Both. Operands stand before their step, so as many turns
-- as its place are enough.
abbrev pub representative : List Step → List Choice → ℕ → ℕ
representative steps choices place = represented place steps choices place

-- The live steps: the least set that holds the representative of the last step and, with each step, the
-- representatives of its operands.
pub data IsLive (steps : List Step) (choices : List Choice) : ℕ → Type 0 where
  Last : IsLive steps choices (representative steps choices (length steps - 1))
  First : (place : ℕ) → IsLive steps choices place → 0 < arity_of (step_at steps place).op
      → IsLive steps choices (representative steps choices (step_at steps place).a)
  Second : (place : ℕ) → IsLive steps choices place → 1 < arity_of (step_at steps place).op
      → IsLive steps choices (representative steps choices (step_at steps place).b)

-- whether a step has the step at a place as an operand
abbrev pub reads : Step → ℕ → Bool
reads step place = (nat_lt 0 (arity_of step.op) && place == step.a)
    || (nat_lt 1 (arity_of step.op) && place == step.b)

-- whether a step, as it chooses, needs the step at a place: its chosen operand, or else each that it has
abbrev pub hands_on : Step → Choice → ℕ → Bool
hands_on step choice place =
    chosen choice (place == step.a) (place == step.b) (reads step place)

-- whether the step at a place is needed by the last step, or by one of so many steps from the last one down
abbrev pub needed_after : ℕ → List Step → List Choice → ℕ → Bool
needed_after zero steps choices place = place == length steps - 1
needed_after (suc turns) steps choices place =
    let from = length steps - 1 - turns in
    needed_after turns steps choices place || (needed_after turns steps choices from
    && hands_on (step_at steps from) (choice_at choices from) place)

abbrev pub is_needed : List Step → List Choice → ℕ → Bool
is_needed steps choices place = needed_after (length steps) steps choices place

-- whether a step stands for itself
abbrev pub is_both : Choice → Bool
is_both choice = chosen choice false false true

-- whether a step is live: it is needed, and stands for itself
abbrev pub is_kept : List Step → List Choice → ℕ → Bool
is_kept steps choices place = is_needed steps choices place && is_both (choice_at choices place)

-- how many steps before a place are live
abbrev pub kept_below : List Step → List Choice → ℕ → ℕ
kept_below steps choices zero = 0
kept_below steps choices (suc place) =
    kept_below steps choices place + (if is_kept steps choices place then 1 else 0)

-- the new number of what stands for the step at a place
abbrev pub new_place : List Step → List Choice → ℕ → ℕ
new_place steps choices place = kept_below steps choices (representative steps choices place)

-- a step whose operands have new numbers
abbrev pub renumbered : (ℕ → ℕ) → Step → Step
renumbered new step = record {
  op = step.op;
  a = (if nat_lt 0 (arity_of step.op) then new step.a else 0);
  b = (if nat_lt 1 (arity_of step.op) then new step.b else 0);
  value = step.value;
}

-- the live steps before a place, in their order
abbrev pub live_below : List Step → List Choice → ℕ → List Step
live_below steps choices zero = []
live_below steps choices (suc place) =
    live_below steps choices place
    ++ (if is_kept steps choices place
    then renumbered (new_place steps choices) (step_at steps place) ∷ [] else [])

-- the live list: all live steps, in their order, numbered anew, with representatives for operands
abbrev pub live_of : List Step → List Choice → List Step
live_of steps choices = live_below steps choices (length steps)

-- the root list of a solid: the live list of all its clauses where every choice is Both
abbrev pub root_of : List Clause → List Step
root_of clauses = live_of (steps_of clauses) (replicate (length clauses) Both)

-- a list is the live list of steps, which can be evaluated, where every choice is Both
pub record IsLiveOf (list steps : List Step) : Type 0 where
  pub tape : IsTape steps
  pub live : list ≡ live_of steps (replicate (length steps) Both)

-- A list is whole where its last step needs each of its steps: shortened where no choice is made, it
-- stays as it is.
abbrev pub IsWhole : List Step → Type 0
IsWhole steps = live_of steps (replicate (length steps) Both) ≡ steps

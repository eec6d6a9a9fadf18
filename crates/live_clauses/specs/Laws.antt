-- What always holds of live lists, of root lists, and of the slopes of a list.
use Rattle.std.specs.Prelude.{◌≡◌, ℕ, ◌<◌, ◌≤◌, ◌↔◌, IsTrue, List, length, replicate, slice_get, Some}
use Rattle.fixed_ops.specs.Points.{Point, step_value}
use Rattle.solid_model.specs.declared.clause.Clause.{Clause}
use Rattle.solid_model.specs.Clauses.{IsModel}
use Rattle.solid_model.specs.Slopes.{solid_sloped}
use Rattle.solid_model.specs.Values.{solid_value}
use Rattle.interval_ops.specs.declared.choice.Choice.{Choice}
use Rattle.interval_ops.specs.declared.choice.Choice.TheVariants.{Both}
use Rattle.live_clauses.specs.Equality.{same_list}
use Rattle.live_clauses.specs.declared.step.Step.{Step}
use Rattle.live_clauses.specs.Choices.{step_at, choice_at, AreChoices, AreRight}
use Rattle.live_clauses.specs.Live.{chosen, representative, IsLive, is_kept, live_of, root_of, IsWhole}
use Rattle.live_clauses.specs.Meanings.{Meaning, MeanTheirChoices, ReadsItsOperands, meaning_at, sloped_at, tape_meaning}
use Rattle.live_clauses.specs.Steps.{AreSteps, IsTape, steps_of, tape_value, value_at}

-- the representative of a step is that of the operand that it chooses, or the step itself
abbrev pub RepresentativesAreChosen : Type 0
RepresentativesAreChosen =
    (steps : List Step) (choices : List Choice) → IsTape steps → AreChoices steps choices
    → (place : ℕ) → place < length steps → representative steps choices place
    ≡ chosen (choice_at choices place) (representative steps choices (step_at steps place).a)
    (representative steps choices (step_at steps place).b) place

-- the steps of the live list are exactly the live steps
abbrev pub LiveStepsAreKept : Type 0
LiveStepsAreKept =
    (steps : List Step) (choices : List Choice) → IsTape steps → AreChoices steps choices
    → (place : ℕ) → IsTrue (is_kept steps choices place) ↔ IsLive steps choices place

-- a live list can be evaluated, and is no longer than the list that it comes from
abbrev pub LiveListsAreTapes : Type 0
LiveListsAreTapes =
    (steps : List Step) (choices : List Choice) → IsTape steps → AreChoices steps choices
    → IsTape (live_of steps choices) × (length (live_of steps choices) ≤ length steps)

-- a list is whole exactly where each of its steps is live though no choice is made
abbrev pub WholeListsNeedEachStep : Type 0
WholeListsNeedEachStep = (steps : List Step) → IsTape steps → IsWhole steps
    ↔ ((place : ℕ) → place < length steps → IsLive steps (replicate (length steps) Both) place)

-- a live list is whole, so that only a new choice leaves out more
abbrev pub LiveListsAreWhole : Type 0
LiveListsAreWhole =
    (steps : List Step) (choices : List Choice) → IsTape steps → AreChoices steps choices
    → IsWhole (live_of steps choices)

-- a root list is whole
abbrev pub RootListsAreWhole : Type 0
RootListsAreWhole = (clauses : List Clause) → IsModel clauses → IsWhole (root_of clauses)

-- a whole list is its own live list under all choices that choose no operand of its steps
abbrev pub WholeListsStand : Type 0
WholeListsStand = (steps : List Step) (choices : List Choice) → IsTape steps → IsWhole steps
    → ((place : ℕ) → place < length steps → choice_at choices place ≡ Both)
    → live_of steps choices ≡ steps

-- each step means what it makes of the meanings of its operands
abbrev pub MeaningsAreOfOperands : Type 0 → Type 0
MeaningsAreOfOperands D = (m : Meaning D) (steps : List Step) → ReadsItsOperands m → AreSteps steps
    → (place : ℕ) (step : Step) → slice_get steps place ≡ Some step → meaning_at m steps place
    ≡ m.step step.op step.value (meaning_at m steps step.a) (meaning_at m steps step.b)

-- where each step that chooses means what it chooses, a live list means what the list means that it
-- comes from
abbrev pub ChoicesKeepTheMeaning : Type 0 → Type 0
ChoicesKeepTheMeaning D = (m : Meaning D) (steps : List Step) (choices : List Choice)
    → ReadsItsOperands m → IsTape steps → AreChoices steps choices
    → MeanTheirChoices m steps choices → tape_meaning m (live_of steps choices) ≡ tape_meaning m steps

-- a root list means what the list of all clauses means
abbrev pub RootHasTheMeaning : Type 0 → Type 0
RootHasTheMeaning D = (m : Meaning D) (clauses : List Clause) → ReadsItsOperands m → IsModel clauses
    → tape_meaning m (root_of clauses) ≡ tape_meaning m (steps_of clauses)

-- each value is what its step makes of the values of its operands
abbrev pub ValuesAreOfOperands : Type 0
ValuesAreOfOperands = (p : Point) (steps : List Step) → AreSteps steps
    → (place : ℕ) (step : Step) → slice_get steps place ≡ Some step → value_at p steps place
    ≡ step_value step.op p step.value (value_at p steps step.a) (value_at p steps step.b)

-- where the choices are right, a live list has the value of the list that it comes from
abbrev pub ChoicesKeepTheValue : Type 0
ChoicesKeepTheValue = (p : Point) (steps : List Step) (choices : List Choice) → IsTape steps
    → AreChoices steps choices
    → AreRight p steps choices → tape_value p (live_of steps choices) ≡ tape_value p steps

-- a root list has the solid's value everywhere
abbrev pub RootHasTheValue : Type 0
RootHasTheValue = (p : Point) (clauses : List Clause) → IsModel clauses
    → tape_value p (root_of clauses) ≡ solid_value p clauses

-- values with their slopes are a meaning of steps
abbrev pub SlopesAreOfOperands : Type 0
SlopesAreOfOperands = (p : Point) → ReadsItsOperands (sloped_at p)

-- whose values are the values of the steps
abbrev pub SlopesStandByValues : Type 0
SlopesStandByValues = (p : Point) (steps : List Step) (place : ℕ)
    → (meaning_at (sloped_at p) steps place).value ≡ value_at p steps place

-- a root list has the solid's slopes everywhere
abbrev pub RootHasTheSlopes : Type 0
RootHasTheSlopes = (p : Point) (clauses : List Clause) → IsModel clauses
    → tape_meaning (sloped_at p) (root_of clauses) ≡ solid_sloped p clauses

-- the test of whether two lists have the same steps tells whether they are equal
abbrev pub ListsAreToldApart : Type 0
ListsAreToldApart = (a b : List Step) → IsTrue (same_list a b) ↔ (a ≡ b)

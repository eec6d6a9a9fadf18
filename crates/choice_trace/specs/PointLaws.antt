-- What the hulls and the choices of a list over a region say of each point there.
use Rattle.std.specs.Prelude.{◌≡◌, ℕ, ◌<◌, List, length, slice_get, Some}
use Rattle.fixed_ops.specs.Points.{Point}
use Rattle.interval_ops.specs.Spans.{Holds}
use Rattle.interval_ops.specs.declared.region.Region.{Region}
use Rattle.interval_laws.specs.Laws.{Wins}
use Rattle.live_clauses.specs.Choices.{AreChoices, AreRight}
use Rattle.live_clauses.specs.Steps.{AreSteps, IsTape, tape_value, value_at}
use Rattle.live_clauses.specs.declared.step.Step.{Step}
use Rattle.choice_trace.specs.Hulls.{IsIn, choice_over, choices_over, hull_at, tape_hull}
use Rattle.choice_trace.specs.Laws.{AreRanges}

-- the hull of a list over a region holds its value at each point there
abbrev pub ValuesAreHeld : Type 0
ValuesAreHeld = (region : Region) (p : Point) (steps : List Step) → AreRanges region → IsIn region p
    → IsTape steps
    → Holds (tape_hull region steps) (tape_value p steps)

-- and so does the hull of each step hold the value of that step
abbrev pub EachValueIsHeld : Type 0
EachValueIsHeld = (region : Region) (p : Point) (steps : List Step) → AreRanges region
    → IsIn region p → AreSteps steps
    → (place : ℕ) → place < length steps → Holds (hull_at region steps place) (value_at p steps place)

-- only a minimum and a maximum choose an operand
abbrev pub ChoicesAreOfSteps : Type 0
ChoicesAreOfSteps =
    (region : Region) (steps : List Step) → AreChoices steps (choices_over region steps)

-- the choices are right at each point of the region
abbrev pub ChoicesAreRight : Type 0
ChoicesAreRight = (region : Region) (p : Point) (steps : List Step) → AreRanges region
    → IsIn region p → IsTape steps
    → AreRight p steps (choices_over region steps)

-- the operand that a step chooses over a region wins against the other at each point there
abbrev pub ChosenOperandsWin : Type 0
ChosenOperandsWin = (region : Region) (p : Point) (steps : List Step) → AreRanges region
    → IsIn region p → AreSteps steps
    → (place : ℕ) (step : Step) → slice_get steps place ≡ Some step
    → Wins step.op (choice_over region steps step) (value_at p steps step.a) (value_at p steps step.b)

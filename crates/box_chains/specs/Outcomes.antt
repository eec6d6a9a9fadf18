-- What tracing a list over boxes tells.
use Rattle.std.specs.Prelude.{◌≡◌, ◌<◌, ◌≤◌, ℕ, Bool, true, false, ◌&&◌, is_none, List, length, map, take, Option, Some, None}
use Rattle.std.specs.List.{All}
use Rattle.choice_trace.specs.Halves.{flag_in}
use Rattle.choice_trace.specs.Hulls.{choices_over, hull_in, tape_hull}
use Rattle.interval_ops.specs.Spans.{Interval}
use Rattle.interval_ops.specs.declared.choice.Choice.{Choice}
use Rattle.interval_ops.specs.declared.choice.Choice.TheVariants.{Both}
use Rattle.live_clauses.specs.Choices.{choice_at, lane}
use Rattle.interval_ops.specs.Decided.{decided_of}
use Rattle.live_clauses.specs.Blocks.{list_at}
use Rattle.live_clauses.specs.Live.{IsWhole, live_of}
use Rattle.live_clauses.specs.declared.choice_row.ChoiceRow.{ChoiceRow}
use Rattle.live_clauses.specs.declared.step.Step.{Step}
use Rattle.view_places.specs.Boxes.{Indices}
use Rattle.view_places.specs.Spans.{IsInRoot, region_of}
use Rattle.box_chains.specs.Placing.{Sampling}
use Rattle.box_chains.specs.declared.asked_box.AskedBox.{AskedBox}
use Rattle.box_chains.specs.declared.outcome.Outcome.{Outcome}
use Rattle.box_chains.specs.declared.outcome.Outcome.TheVariants.{Inside, Outside, Open}
use Rattle.box_chains.specs.declared.traced_box.TracedBox.{TracedBox}

-- a decision as an outcome, where an undecided box hands on a list
abbrev pub outcome_by : Option Bool → List Step → Outcome (List Step)
outcome_by (Some true) live = Inside
outcome_by (Some false) live = Outside
outcome_by None live = Open live

-- what tracing a list over a box tells: what its hull decides, or the live list
abbrev pub outcome_of : Sampling → List Step → Indices → Outcome (List Step)
outcome_of places list b =
    outcome_by (decided_of (tape_hull (region_of places.view places.lattice b) list))
    (live_of list (choices_over (region_of places.view places.lattice b) list))

-- a box that is held open is left undecided where all of it is inside
abbrev pub held_decision : Bool → Option Bool → Option Bool
held_decision false told = told
held_decision true None = None
held_decision true (Some true) = None
held_decision true (Some false) = Some false

-- what tracing a list over a box tells that may be held open
abbrev pub asked_outcome : Sampling → List Step → AskedBox → Outcome (List Step)
asked_outcome places list asked =
    outcome_by
    (held_decision asked.held
    (decided_of (tape_hull (region_of places.view places.lattice asked.range) list)))
    (live_of list (choices_over (region_of places.view places.lattice asked.range) list))

-- and over some such boxes
abbrev pub asked_outcomes : Sampling → List Step → List AskedBox → List (Outcome (List Step))
asked_outcomes places list asked = map (asked_outcome places list) asked

-- what the hull of a tape decides of a box: all of it is inside, or outside, or neither
abbrev pub decision_of : Sampling → List Step → Indices → Option Bool
decision_of places tape b = decided_of (tape_hull (region_of places.view places.lattice b) tape)

-- whether or not a box is split where it is decided, its hull decides the same
abbrev pub asked_decisions : Sampling → List Step → List AskedBox → List (Option Bool)
asked_decisions places tape asked = map (λ a. decision_of places tape a.range) asked

-- the decisions of boxes that were traced, and their outcomes
abbrev pub traced_decisions : List TracedBox → List (Option Bool)
traced_decisions traced = map (λ t. t.decision) traced

abbrev pub traced_outcomes : List TracedBox → List (Outcome ℕ)
traced_outcomes traced = map (λ t. t.outcome) traced

-- boxes of a lattice's samples
abbrev pub AreInRoot : Sampling → List AskedBox → Type 0
AreInRoot places asked = All (λ a. IsInRoot places.view places.lattice a.range) asked

-- what tracing a list over some boxes tells of each
abbrev pub outcomes_of : Sampling → List Step → List Indices → List (Outcome (List Step))
outcomes_of places list boxes = map (outcome_of places list) boxes

-- the number of a list that a box may hand on: each of its steps is needed, and it has at most so many
pub record IsHandedOn (most : ℕ) (lists : List (List Step)) (at : ℕ) : Type 0 where
  pub among : at < length lists
  pub few : length (list_at lists at) ≤ most
  pub whole : IsWhole (list_at lists at)

-- a box that hands on a list hands on such a one
abbrev pub HandsOn : ℕ → List (List Step) → Outcome ℕ → Type 0
HandsOn most lists Inside = Unit {0}
HandsOn most lists Outside = Unit {0}
HandsOn most lists (Open at) = IsHandedOn most lists at

-- an outcome that has a list by its number among some, with the list itself
abbrev pub seen : List (List Step) → Outcome ℕ → Outcome (List Step)
seen lists Inside = Inside
seen lists Outside = Outside
seen lists (Open at) = Open (list_at lists at)

-- the same of some outcomes
abbrev pub all_seen : List (List Step) → List (Outcome ℕ) → List (Outcome (List Step))
all_seen lists outcomes = map (seen lists) outcomes

-- outcomes that have lists by their numbers are these ones, and hand on lists of at most so many steps
pub record AreSeen (most : ℕ) (lists : List (List Step)) (outcomes : List (Outcome ℕ))
    (told : List (Outcome (List Step))) : Type 0 where
  pub are : all_seen lists outcomes ≡ told
  pub hand : All (HandsOn most lists) outcomes

-- lists that stand first among others
abbrev pub AreFirst : List (List Step) → List (List Step) → Type 0
AreFirst first all = take (length first) all ≡ first

-- what the hull in a lane decides
abbrev pub decision_in : List Interval → ℕ → Option Bool
decision_in hulls l = decided_of (hull_in hulls l)

-- whether the box of a lane is held open
abbrev pub held_in : List AskedBox → ℕ → Bool
held_in asked l = flag_in (map (λ a. a.held) asked) l

-- what the hull in a lane decides of its box
abbrev pub lane_decision : List AskedBox → List Interval → ℕ → Option Bool
lane_decision asked hulls l = held_decision (held_in asked l) (decided_of (hull_in hulls l))

-- whether the box of a lane hands on a shorter list: it stays open, and some step chooses an operand
abbrev pub is_shortened : List AskedBox → List Interval → List Bool → ℕ → Bool
is_shortened asked hulls chosen l = is_none (lane_decision asked hulls l) && flag_in chosen l

-- what a hull in a lane tells of a list, with the choices in that lane of some rows
abbrev pub lane_outcome : List Step → List AskedBox → List Interval → List ChoiceRow → ℕ
    → Outcome (List Step)
lane_outcome list asked hulls rows l =
    outcome_by (lane_decision asked hulls l)
    (live_of list (take (length list) (lane l rows)))

-- no choice is of an operand
abbrev pub ChoosesNone : List Choice → Type 0
ChoosesNone choices = (place : ℕ) → choice_at choices place ≡ Both

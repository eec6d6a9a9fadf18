-- Theorems for the crates above: what always holds of the definitions.
use Rattle.interval_ops.specs.declared.choice.Choice.TheVariants.{Both}
use Rattle.live_clauses.proofs.Again.{live-whole, live_of-is_whole, whole-live, whole-stands}
use Rattle.live_clauses.proofs.Keeping.{live_of-le, live_of-meaning, live_of-tape}
use Rattle.live_clauses.proofs.MeaningLaws.{meaning_at-step}
use Rattle.live_clauses.proofs.Needs.{kept_live, live_kept}
use Rattle.live_clauses.proofs.Representatives.{representative-chosen}
use Rattle.live_clauses.proofs.RootLaws.{all_both-choices, root_of-meaning, steps_of-tape, steps_of-value}
use Rattle.live_clauses.proofs.ValueLaws.{number_at, number_at-reads}
use Rattle.live_clauses.specs.Laws.{ChoicesKeepTheValue, LiveListsAreTapes, LiveListsAreWhole, LiveStepsAreKept, RepresentativesAreChosen, RootHasTheValue, RootListsAreWhole, ValuesAreOfOperands, WholeListsNeedEachStep, WholeListsStand}
use Rattle.live_clauses.specs.Steps.{steps_of}
use Rattle.std.proofs.Common.{length, replicate, ◌∙◌}

-- The representative of a step is that of its chosen operand, or the step itself. The steps that a
-- live list keeps are exactly the least set that holds the representative of the last step and,
-- with each step, the representatives of its operands.
pub representatives_are_chosen : RepresentativesAreChosen
representatives_are_chosen = λ steps choices tape choose. representative-chosen steps choices tape.each choose

pub live_steps_are_kept : LiveStepsAreKept
live_steps_are_kept =
    λ steps choices tape choose place.
    (kept_live steps choices tape.some tape.each choose place, live_kept steps choices tape.some tape.each choose place)

pub live_lists_are_tapes : LiveListsAreTapes
live_lists_are_tapes = λ steps choices tape choose. (live_of-tape steps choices tape choose, live_of-le steps choices)

-- A list is whole where its last step needs each of its steps. A live list is whole, and so is a
-- root list: shortened again, either stays as it is until an operand of one of its own steps is
-- chosen.
pub whole_lists_need_each_step : WholeListsNeedEachStep
whole_lists_need_each_step = λ steps tape. (whole-live steps tape, live-whole steps tape)

pub live_lists_are_whole : LiveListsAreWhole
live_lists_are_whole = λ steps choices tape choose. live_of-is_whole steps choices tape choose

pub root_lists_are_whole : RootListsAreWhole
root_lists_are_whole =
    λ clauses model.
    live_of-is_whole (steps_of clauses) (replicate (length clauses) Both) (steps_of-tape clauses model) (all_both-choices (steps_of clauses) (length clauses))

pub whole_lists_stand : WholeListsStand
whole_lists_stand = λ steps choices tape whole none. whole-stands steps choices tape whole none

-- The value of a step at a point is a meaning, which is made of those of its operands.
pub values_are_of_operands : ValuesAreOfOperands
values_are_of_operands p steps stand place step is = meaning_at-step (number_at p) (number_at-reads p) steps place step stand is

-- So is the value of a list, which right choices keep,
pub choices_keep_the_value : ChoicesKeepTheValue
choices_keep_the_value p steps choices tape choose right =
    live_of-meaning steps choices tape choose (number_at p) (number_at-reads p) (record { left = right.left; right = right.right })

-- and which a root list has of all clauses.
pub root_has_the_value : RootHasTheValue
root_has_the_value p clauses model =
    root_of-meaning (number_at p) (number_at-reads p) clauses model ∙ steps_of-value p clauses

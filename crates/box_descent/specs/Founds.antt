-- What is found of a box, and the tape that its children are given.
use Rattle.std.specs.Prelude.{◌≡◌, ℕ, ◌&&◌, Bool, true, false, List, Option, Some, None, if◌then◌else◌}
use Rattle.box_chains.specs.Chains.{Descent, Visit, decision, handed_on, is_long, visit}
use Rattle.box_chains.specs.Desks.{Tracing, list_of}
use Rattle.box_chains.specs.declared.outcome.Outcome.{Outcome}
use Rattle.box_chains.specs.declared.outcome.Outcome.TheVariants.{Inside as AllInside, Outside as AllOutside, Open}
use Rattle.box_chains.specs.declared.traced_box.TracedBox.{TracedBox}
use Rattle.live_clauses.specs.Live.{IsWhole}
use Rattle.live_clauses.specs.declared.step.Step.{Step}
use Rattle.view_places.specs.Boxes.{Indices}
use Rattle.box_descent.specs.Looked.{MayVisit, looked}
use Rattle.box_descent.specs.Plans.{is_held, is_traced, meets_border}
use Rattle.box_descent.specs.declared.found.Found.{Found}
use Rattle.box_descent.specs.declared.found.Found.TheVariants.{Untraced, Inside, Outside, Ambiguous}
use Rattle.box_descent.specs.declared.plan.Plan.{Plan}

-- a box may be given the tape of a number, which is this one
pub record GivesTape (plan : Plan) (desk : Tracing) (b : Indices) (at : ℕ) (tape : List Step) : Type 0 where
  pub may : MayVisit plan desk b at
  pub is : list_of desk at ≡ tape

-- the tape of a box that is all inside: the pruned one where it prunes one, and else the one that it was given
abbrev pub inside_tape : Plan → Descent → Visit → List Step
inside_tape plan d v = if is_held plan d v.box then handed_on d v else v.list

-- What is found is right of a box that was given the tape of a number.
abbrev pub IsFound : Plan → Tracing → Indices → ℕ → Found → Type 0
IsFound plan desk b given Untraced = is_traced plan b ≡ false
IsFound plan desk b given (Inside at) =
    (decision (looked plan desk) (visit b (list_of desk given)) ≡ Some true)
    × (GivesTape plan desk b at (inside_tape plan (looked plan desk) (visit b (list_of desk given)))
    × (is_held plan (looked plan desk) b ≡ true → IsWhole (list_of desk at)))
IsFound plan desk b given Outside = decision (looked plan desk) (visit b (list_of desk given)) ≡ Some false
IsFound plan desk b given (Ambiguous at) =
    (decision (looked plan desk) (visit b (list_of desk given)) ≡ None)
    × (GivesTape plan desk b at (handed_on (looked plan desk) (visit b (list_of desk given)))
    × IsWhole (list_of desk at))

-- The number of the tape that the children of a box are given: none where it has no children to be visited.
abbrev pub child_tape : Plan → Tracing → Indices → Found → Option ℕ
child_tape plan desk b Untraced = None
child_tape plan desk b (Inside at) =
    if is_long plan.leaf b && meets_border plan (looked plan desk) b then Some at else None
child_tape plan desk b Outside = None
child_tape plan desk b (Ambiguous at) = if is_long plan.leaf b then Some at else None

-- what is found of a box that was traced
abbrev pub found_of : ℕ → TracedBox → Found
found_of given t = by t.outcome t.decision
  where
    by : Outcome ℕ → Option Bool → Found
    by (Open at) None = Ambiguous at
    by (Open at) (Some inside) = Inside at
    by AllInside decision = Inside given
    by AllOutside decision = Outside

-- the tape that was found, or else the one that the box was given
abbrev pub tape_of : ℕ → Found → ℕ
tape_of given Untraced = given
tape_of given (Inside at) = at
tape_of given Outside = given
tape_of given (Ambiguous at) = at

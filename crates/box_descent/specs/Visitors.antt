-- What a visitor does.
use Rattle.std.specs.Prelude.{Bool, List}
use Rattle.box_chains.specs.Chains.{Descent, Visit}
use Rattle.fixed_ops.specs.Counts.{Counts}
use Rattle.live_clauses.specs.declared.step.Step.{Step}
use Rattle.view_places.specs.Boxes.{Indices}
use Rattle.box_descent.specs.declared.plan.Plan.{Plan}

-- What a visitor in a state does, where a box that is opened is remembered by a mark.
pub record Meaning (S M : Type 0) : Type 1 where
  -- how the boxes are split, traced and ordered
  pub plan : Plan
  -- the state goes with a descent
  pub ready : Descent → S → Type 0
  -- a box is wanted
  pub wanted : Descent → S → Indices → Bool
  -- these boxes, which are given a tape, are those that can be visited next, one after the other
  pub fits : Descent → S → List Step → List Indices → Type 0
  -- the second state and tally are what the first become by a box with all that is below it, but for its own trace
  pub draws : Descent → S → S → Visit → Counts → Counts → Type 0
  -- and what they become where memory is wanted in its midst
  pub halts : Descent → S → S → Visit → Counts → Counts → Type 0
  -- the second state is what the first becomes before the children of a box are visited
  pub opens : Descent → S → S → Visit → M → Type 0
  -- and once they were
  pub closes : S → S → M → Type 0

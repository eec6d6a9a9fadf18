use Rattle.std.proofs.Common.{◌≡◌, take}
use Rattle.live_clauses.specs.Steps.{steps_of}
use Rattle.live_clauses.proofs.roots.are_steps.Given as goal

abbrev pub invariant-loop-at : goal.invariant-loop-at
invariant-loop-at l = take l.at l.steps ≡ steps_of (take l.at l.model)

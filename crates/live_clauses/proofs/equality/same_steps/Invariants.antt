use Rattle.std.proofs.Common.{◌≡◌, ℕ, ◌<◌, map}
use Rattle.live_clauses.specs.Choices.{step_at}
use Rattle.live_clauses.specs.Packed.{unpacked}
use Rattle.live_clauses.proofs.equality.same_steps.Given as goal

abbrev pub invariant-loop-at : goal.invariant-loop-at
invariant-loop-at l = (k : ℕ) → k < l.at → step_at (map (unpacked l.a_constants) l.a) k ≡ step_at (map (unpacked l.b_constants) l.b) k

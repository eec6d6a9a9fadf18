use Rattle.std.proofs.Common.{◌≡◌, ◌<◌, ◌≤◌, ℕ, false}
use Rattle.live_clauses.specs.Choices.{has_bit}
use Rattle.box_chains.specs.Outcomes.{is_shortened}
use Rattle.box_chains.proofs.rows.shortened.Given as goal

abbrev pub invariant-loop-l : goal.invariant-loop-l
invariant-loop-l g l = record {
  done : (k : ℕ) → k < l.l → has_bit l.lanes k ≡ is_shortened l.asked l.halves.hulls l.halves.chosen k;
  rest : (k : ℕ) → l.l ≤ k → has_bit l.lanes k ≡ false;
}

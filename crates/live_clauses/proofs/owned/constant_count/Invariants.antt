use Rattle.std.proofs.Common.{◌≤◌}
use Rattle.live_clauses.proofs.owned.constant_count.Given as goal

abbrev pub invariant-loop-step : goal.invariant-loop-step
invariant-loop-step l = l.count ≤ l.step-index

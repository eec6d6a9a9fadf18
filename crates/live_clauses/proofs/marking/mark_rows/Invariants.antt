use Rattle.std.proofs.Common.{◌≡◌, ◌-◌, ◌≤◌, ◌<◌, ℕ, true, length}
use Rattle.live_clauses.specs.Choices.{has_bit}
use Rattle.live_clauses.proofs.MarkTurns.{AreMarksAfter}
use Rattle.live_clauses.proofs.marking.mark_rows.Given as goal

abbrev pub invariant-loop-at : goal.invariant-loop-at
invariant-loop-at g l = record {
  within : l.at ≤ length l.list;
  marked : (lane : ℕ) → lane < 8 → has_bit l.lanes lane ≡ true → AreMarksAfter lane (length l.list - l.at) l.list (g.R.ChoiceRows.lanes l.rows lane) l.marks;
}

abbrev pub decreases-loop-at : goal.decreases-loop-at
decreases-loop-at g l = l.at

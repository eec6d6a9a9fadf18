use Rattle.std.proofs.Common.{◌≡◌, ℕ, suc, ◌<◌, length}
use Rattle.ply_check.specs.Walks.{IsNotBack, stepped, table}
use Rattle.ply_check.proofs.rounds.is_away.Given as goal

abbrev pub invariant-loop-step : goal.invariant-loop-step
invariant-loop-step l = record {
  low : l.at < length l.next;
  walk : (n : ℕ) → suc n ≡ l._step → l.at ≡ stepped (table l.next) n l.start;
  away : IsNotBack (table l.next) l._step l.start;
}

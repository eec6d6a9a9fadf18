use Rattle.std.proofs.Common.{◌-◌, ◌≤◌}
use Rattle.live_clauses.specs.Marks.{AreIdle}
use Rattle.live_clauses.proofs.marked.next_of_few.Given as goal

abbrev pub invariant-loop-at : goal.invariant-loop-at
invariant-loop-at l = record {
  onward : l.fn.from ≤ l.at;
  within : l.at ≤ l.end;
  idle : AreIdle l.lane l.marks l.fn.from l.at;
}

abbrev pub decreases-loop-at : goal.decreases-loop-at
decreases-loop-at l = l.end - l.at

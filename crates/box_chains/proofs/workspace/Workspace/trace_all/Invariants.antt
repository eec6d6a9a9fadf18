use Rattle.std.proofs.Common.{◌≡◌, ◌*◌, ◌≤◌, ◌-◌, length, take}
use Rattle.arrayvec.specs.ArrayVec.{array_vec_len}
use Rattle.interval_ops.specs.HullCounts.{CountsHulls}
use Rattle.live_clauses.specs.Blocks.{list_at}
use Rattle.box_chains.specs.Outcomes.{AreFirst, AreSeen, asked_decisions, asked_outcomes}
use Rattle.box_chains.proofs.workspace.Workspace.trace_all.Given as goal

abbrev pub invariant-loop-done : goal.invariant-loop-done
invariant-loop-done l = let list = list_at l.fn.lists l.at in record {
  within : l.done ≤ length l.asked;
  as_many : array_vec_len l.outcomes ≡ l.done;
  room : length l.self ≡ length l.fn.self;
  first : AreFirst l.fn.lists l.lists;
  outcomes : AreSeen (length list) l.lists l.outcomes.items (asked_outcomes l.places list (take l.done l.asked));
  decisions : l.decisions.items ≡ asked_decisions l.places list (take l.done l.asked);
  counted : CountsHulls (l.done * length list) l.fn.tally l.tally;
}

abbrev pub decreases-loop-done : goal.decreases-loop-done
decreases-loop-done l = length l.asked - l.done

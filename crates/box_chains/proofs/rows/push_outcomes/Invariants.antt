use Rattle.std.proofs.Common.{◌≡◌, ◌+◌, ◌++◌, List, length, map}
use Rattle.std.specs.List.{range_with_len}
use Rattle.arrayvec.specs.ArrayVec.{array_vec_len}
use Rattle.live_clauses.specs.Blocks.{list_at}
use Rattle.live_clauses.specs.declared.step.Step.{Step}
use Rattle.box_chains.specs.Outcomes.{AreFirst, AreSeen, decision_in, lane_outcome}
use Rattle.box_chains.specs.declared.outcome.Outcome.{Outcome}
use Rattle.box_chains.proofs.rows.push_outcomes.Given as goal

abbrev pub invariant-loop-l : goal.invariant-loop-l
invariant-loop-l g l = let list = list_at l.fn.lists l.at in record {
  first : AreFirst l.fn.lists l.lists;
  room : array_vec_len l.outcomes ≡ array_vec_len l.fn.outcomes + l.l;
  outcomes : (told : List (Outcome (List Step))) → AreSeen (length list) l.fn.lists l.fn.outcomes.items told
      → AreSeen (length list) l.lists l.outcomes.items (told ++ map (lane_outcome list l.asked l.halves.hulls l.rows) (range_with_len 0 l.l));
  decisions : l.decisions.items ≡ l.fn.decisions.items ++ map (decision_in l.halves.hulls) (range_with_len 0 l.l);
}

use Rattle.std.proofs.Common.{◌≡◌, take}
use Rattle.arrayvec.specs.ArrayVec.{array_vec_len}
use Rattle.box_chains.specs.Outcomes.{traced_decisions, traced_outcomes}
use Rattle.box_chains.proofs.workspace.traced_boxes.Given as goal

abbrev pub invariant-loop-i : goal.invariant-loop-i
invariant-loop-i l = record {
  room : array_vec_len l.traced ≡ l.i;
  decisions : traced_decisions l.traced.items ≡ take l.i l.decisions;
  outcomes : traced_outcomes l.traced.items ≡ take l.i l.outcomes;
}

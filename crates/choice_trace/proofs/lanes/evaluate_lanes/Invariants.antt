use Rattle.std.proofs.Common.{◌≡◌, ◌<◌, ℕ, drop, length}
use Rattle.choice_trace.proofs.Rows.{AreRows}
use Rattle.choice_trace.proofs.lanes.evaluate_lanes.Given as goal

abbrev pub invariant-loop-at : goal.invariant-loop-at
invariant-loop-at g l = record {
  read : (lane : ℕ) → lane < g.row.L → AreRows lane l.inputs l.regs l.steps l.at;
  rest : drop (length l.steps) l.regs ≡ drop (length l.steps) l.fn.regs;
}

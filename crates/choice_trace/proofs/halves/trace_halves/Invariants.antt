use Rattle.std.proofs.Common.{◌≡◌, ◌<◌, ◌*◌, ◌↔◌, ℕ, drop, false, length}
use Rattle.fixed_ops.specs.Counts.{no_counts}
use Rattle.interval_ops.specs.HullCounts.{CountsHulls}
use Rattle.live_clauses.specs.Choices.{choice_at, lane}
use Rattle.choice_trace.specs.Halves.{flag_in, region_in, row_in}
use Rattle.choice_trace.specs.Hulls.{choices_over, hull_at, hull_in}
use Rattle.choice_trace.proofs.HalfRows.{AreBoth}
use Rattle.choice_trace.proofs.halves.trace_halves.Given as goal

abbrev pub invariant-loop-at : goal.invariant-loop-at
invariant-loop-at g l = record {
  hulls : (j : ℕ) → j < l.at → (k : ℕ) → k < g.row.L → hull_in (row_in l.regs j) k ≡ hull_at (region_in l.fn.regions k) l.steps j;
  choices : (j : ℕ) → j < l.at → (k : ℕ) → k < g.row.L → choice_at (lane k l.choices) j ≡ choice_at (choices_over (region_in l.fn.regions k) l.steps) j;
  chosen : (k : ℕ) → k < g.row.L → (flag_in l.chosen k ≡ false) ↔ AreBoth l.at (choices_over (region_in l.fn.regions k) l.steps);
  regs_rest : drop (length l.steps) l.regs ≡ drop (length l.steps) l.fn.regs;
  choices_rest : drop (length l.steps) l.choices ≡ drop (length l.steps) l.fn.choices;
  counted : CountsHulls (g.row.L * l.at) no_counts l.work;
}

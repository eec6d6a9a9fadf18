use Rattle.std.proofs.Common.{◌≡◌, drop, length, take}
use Rattle.fixed_ops.specs.Counts.{no_counts}
use Rattle.interval_ops.specs.HullCounts.{CountsHulls}
use Rattle.choice_trace.specs.Hulls.{choices_over, hulls}
use Rattle.choice_trace.proofs.tracer.trace_steps.Given as goal

abbrev pub invariant-loop-at : goal.invariant-loop-at
invariant-loop-at l = record {
  hulls : take l.at l.regs ≡ take l.at (hulls l.fn.region l.steps);
  chosen : take l.at l.choices ≡ take l.at (choices_over l.fn.region l.steps);
  hulls_rest : drop (length l.steps) l.regs ≡ drop (length l.steps) l.fn.regs;
  choices_rest : drop (length l.steps) l.choices ≡ drop (length l.steps) l.fn.choices;
  counted : CountsHulls l.at no_counts l.work;
}

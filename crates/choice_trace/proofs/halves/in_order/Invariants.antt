use Rattle.std.proofs.Common.{◌<◌, ℕ}
use Rattle.choice_trace.specs.Halves.{region_in}
use Rattle.choice_trace.specs.Laws.{AreRanges}
use Rattle.choice_trace.proofs.halves.in_order.Given as goal

abbrev pub invariant-loop-l : goal.invariant-loop-l
invariant-loop-l g l = (k : ℕ) → k < l.l → AreRanges (region_in l.regions k)

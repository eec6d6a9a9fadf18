use Rattle.std.proofs.Common.{◌≡◌, ◌<◌, ℕ, length}
use Rattle.interval_ops.specs.HullCounts.{CountsHulls}
use Rattle.interval_ops.specs.Hulls.{hull_of}
use Rattle.choice_trace.specs.Hulls.{hull_in}
use Rattle.choice_trace.proofs.halves.hull_row.Given as goal

abbrev pub invariant-loop-l : goal.invariant-loop-l
invariant-loop-l g l = record {
  len : length l.hulls ≡ 4;
  hulls : (k : ℕ) → k < l.l → hull_in l.hulls k ≡ hull_of l.op (hull_in l.a k) (hull_in l.b k);
  counted : CountsHulls l.l l.fn.work l.work;
}

use Rattle.std.proofs.Common.{◌≡◌, ◌<◌, ◌≤◌, ◌||◌, ℕ, length}
use Rattle.interval_ops.specs.Choices.{choice_of}
use Rattle.interval_ops.specs.HullCounts.{CountsHulls}
use Rattle.interval_ops.specs.Hulls.{hull_of}
use Rattle.interval_ops.specs.declared.choice.Choice.TheVariants.{Both}
use Rattle.live_clauses.specs.Choices.{choice_in}
use Rattle.choice_trace.specs.Halves.{flag_in, is_made}
use Rattle.choice_trace.specs.Hulls.{hull_in}
use Rattle.choice_trace.proofs.halves.chosen_row.Given as goal

abbrev pub invariant-loop-l : goal.invariant-loop-l
invariant-loop-l g l = record {
  hulls_len : length l.hulls ≡ 4;
  chosen_len : length l.chosen ≡ g.row.L;
  hulls : (k : ℕ) → k < l.l → hull_in l.hulls k ≡ hull_of l.op (hull_in l.a k) (hull_in l.b k);
  choices : (k : ℕ) → k < l.l → choice_in l.row k ≡ choice_of l.op (hull_in l.a k) (hull_in l.b k);
  none : (k : ℕ) → l.l ≤ k → choice_in l.row k ≡ Both;
  chosen : (k : ℕ) → k < l.l → flag_in l.chosen k ≡ (flag_in l.fn.chosen k || is_made (choice_of l.op (hull_in l.a k) (hull_in l.b k)));
  rest : (k : ℕ) → l.l ≤ k → flag_in l.chosen k ≡ flag_in l.fn.chosen k;
  counted : CountsHulls l.l l.fn.work l.work;
}

-- One more element is written, with the value that it stands for.
use Rattle.std.proofs.Common.{◌≡◌, ℕ, ◌+◌, ◌<◌, ℤ, pos, List, length, set, get_or, Some, slice_get, sym, subst, below_more, arith}
use Rattle.std.proofs.lemmas.List.{get_or-set_same, get_or-set_other}
use Rattle.fixed_ops.specs.Counts.{Counts, RisesWithin, no_counts, plus, times}
use Rattle.fixed_ops.specs.Points.{Point}
use Rattle.live_clauses.specs.Steps.{AreSteps, value_after, value_at, values}
use Rattle.live_clauses.specs.declared.step.Step.{Step}
use Rattle.live_clauses.proofs.Theorems.{values_are_of_operands}
use Rattle.choice_trace.specs.Meaning.{StandsForResults}
use Rattle.fixed_ops.proofs.CountLaws.{tallies_add_up_is}
use Rattle.fixed_ops.specs.Operations.{op_result}
use Rattle.fixed_ops.specs.declared.operation.Op.{Op}

-- two elements stand for numbers on which an operation gives this value
pub record StandForOperands {D : Type 0} (stands_for : D → ℤ → Type 0)
    (op : Op) (a b : D) (value : ℤ) : Type 0 where
  pub left : ℤ
  pub right : ℤ
  pub for_a : stands_for a left
  pub for_b : stands_for b right
  pub is : op_result op left right ≡ value

-- so many elements stand each for the value at its place
abbrev pub AreRead : {D : Type 0} → (D → ℤ → Type 0) → D → List D → List ℤ → ℕ → Type 0
AreRead stands_for default elements values count = (place : ℕ) → place < count
    → stands_for (get_or elements place default) (get_or values place (pos 0))

-- no element is read at first
pub none_read : {D : Type 0} (stands_for : D → ℤ → Type 0) (default : D) (elements : List D) (values : List ℤ) → AreRead stands_for default elements values 0
none_read stands_for default elements values place h = absurd (omega (arith, h))

-- what holds of each element below a place holds of one more, once that one is written
pub each_more : {A : Type 0} (P : ℕ → A → Type 0) (row : List A) (at : ℕ) (new d : A) → at < length row
    → ((k : ℕ) → k < at → P k (get_or row k d)) → P at new → (k : ℕ) → k < at + 1 → P k (get_or (set row at new) k d)
each_more P row at new d room below here =
    below_more (λ k. P k (get_or (set row at new) k d)) at
    (λ k h. subst (P k) (sym (get_or-set_other row at k new d (λ e. omega (arith, e, h)))) (below k h))
    (subst (P at) (sym (get_or-set_same row at new d room)) here)

-- an element more is read
pub read_more : {D : Type 0} (stands_for : D → ℤ → Type 0) (default : D) (elements : List D) (values : List ℤ) (at : ℕ) (new : D)
    → at < length elements → AreRead stands_for default elements values at → stands_for new (get_or values at (pos 0))
    → AreRead stands_for default (set elements at new) values (at + 1)
read_more stands_for default elements values at new room read stands =
    each_more (λ k d. stands_for d (get_or values k (pos 0))) elements at new default room read stands

-- what a step makes of its operands stands for its value in the list
pub step_stands : {D : Type 0} (stands_for : D → ℤ → Type 0) (p : Point) (steps : List Step) (at : ℕ) (step : Step) (a b new : D)
    → AreSteps steps → slice_get steps at ≡ Some step → StandForOperands stands_for step.op a b (value_after p (values p steps) step)
    → StandsForResults stands_for step.op a b new → stands_for new (value_at p steps at)
step_stands stands_for p steps at step a b new stand is operands results =
    subst (λ v. stands_for new v) (sym (values_are_of_operands p steps stand at step is))
    (subst (λ v. stands_for new v) operands.is (results operands.left operands.right operands.for_a operands.for_b))

-- a tally that stands rises by no work
pub within_none : (counts least most : Counts) → RisesWithin counts counts (times 0 least) (times 0 most)
within_none counts least most = record {
  by = no_counts;
  enough = record { points = omega arith; spans = omega arith; corners = omega arith };
  within = record { points = omega arith; spans = omega arith; corners = omega arith };
  rises = tallies_add_up_is.none counts;
}

-- one more piece of work
pub within_more : (before mid after least most : Counts) (n : ℕ) → RisesWithin before mid (times n least) (times n most) → RisesWithin mid after least most
    → RisesWithin before after (times (n + 1) least) (times (n + 1) most)
within_more before mid after least most n first second = record {
  by = plus first.by second.by;
  enough = record {
    points = omega (arith, first.enough.points, second.enough.points);
    spans = omega (arith, first.enough.spans, second.enough.spans);
    corners = omega (arith, first.enough.corners, second.enough.corners);
  };
  within = record {
    points = omega (arith, first.within.points, second.within.points);
    spans = omega (arith, first.within.spans, second.within.spans);
    corners = omega (arith, first.within.corners, second.within.corners);
  };
  rises = tallies_add_up_is.sum before mid after first.by second.by first.rises second.rises;
}

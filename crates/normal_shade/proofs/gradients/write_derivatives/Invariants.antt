use Rattle.std.proofs.Common.{◌≡◌, ◌≤◌, ◌*◌, ℕ, drop, length}
use Rattle.fixed_ops.specs.Points.{Point}
use Rattle.normal_shade.specs.DualWork.{derivatives_below}
use Rattle.normal_shade.specs.Duals.{AreDuals, HasValues, MarksReached, dual_in}
use Rattle.normal_shade.proofs.gradients.write_derivatives.Given as goal

abbrev pub invariant-loop-at : goal.invariant-loop-at
invariant-loop-at l = record {
  values : (place : ℕ) → (dual_in place l.duals).value ≡ (dual_in place l.fn.duals).value;
  duals : (p : Point) → HasValues p l.list (λ place. (dual_in place l.fn.duals).value) → MarksReached p l.list 0 l.marks → AreDuals p l.list (λ place. dual_in place l.duals) l.at;
  cost : (p : Point) → HasValues p l.list (λ place. (dual_in place l.fn.duals).value) → MarksReached p l.list 0 l.marks → l.count ≡ derivatives_below p l.list l.at;
  few : l.count ≤ 9 * l.at;
  rest : drop (length l.list) l.duals ≡ drop (length l.list) l.fn.duals;
}

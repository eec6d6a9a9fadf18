use Rattle.std.proofs.Common.{◌≡◌, ◌≤◌, ◌<◌, ◌*◌, ℕ}
use Rattle.std.specs.List.{range_with_len, sum_by}
use Rattle.fixed_ops.specs.Points.{Point}
use Rattle.choice_trace.specs.Lanes.{number_at}
use Rattle.normal_shade.specs.DualWork.{derivatives_below}
use Rattle.normal_shade.specs.Duals.{AreDuals, HasValues, MarksReached, dual_at}
use Rattle.normal_shade.proofs.dual_lanes.differentiate.Given as goal

abbrev pub invariant-loop-at : goal.invariant-loop-at
invariant-loop-at g l = record {
  duals : (lane : ℕ) (p : Point) → lane < g.row.L → HasValues p l.list (number_at lane l.values) → MarksReached p l.list lane l.marks → AreDuals p l.list (dual_at lane l.duals) l.at;
  cost : (at : ℕ → Point) → ((lane : ℕ) → lane < g.row.L → HasValues (at lane) l.list (number_at lane l.values)) → ((lane : ℕ) → lane < g.row.L → MarksReached (at lane) l.list lane l.marks)
      → l.count ≡ sum_by (λ lane. derivatives_below (at lane) l.list l.at) (range_with_len 0 g.row.L);
  few : l.count ≤ 72 * l.at;
}

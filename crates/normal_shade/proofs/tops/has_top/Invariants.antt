use Rattle.std.proofs.Common.{◌≡◌}
use Rattle.box_chains.specs.Sums.{sum_along}
use Rattle.normal_shade.specs.Marks.{tops_along}
use Rattle.normal_shade.proofs.tops.has_top.Given as goal

abbrev pub invariant-loop-j : goal.invariant-loop-j
invariant-loop-j l = record {
  same : l.b ≡ l.fn.b;
  none : sum_along l.fn.b.y0 l.j (λ j. tops_along l.fn.w l.tops l.fn.b j l.fn.b.x0 l.fn.b.x1) ≡ 0;
}

use Rattle.std.proofs.Common.{◌≡◌}
use Rattle.normal_shade.specs.Marks.{tops_along}
use Rattle.normal_shade.proofs.tops.has_top_in_row.Given as goal

abbrev pub invariant-loop-i : goal.invariant-loop-i
invariant-loop-i l = tops_along l.fn.w l.tops l.fn.b l.fn.j l.fn.b.x0 l.i ≡ 0

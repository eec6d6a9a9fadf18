use Rattle.std.proofs.Common.{◌+◌}
use Rattle.height_map.specs.Columns.{Changes, covers, lifted}
use Rattle.height_map.proofs.columns.lift_row.Given as goal

abbrev pub invariant-loop-i : goal.invariant-loop-i
invariant-loop-i l = Changes (covers l.fn.w (record l.fn.b { x1 = l.i; y0 = l.fn.j; y1 = l.fn.j + 1 })) (λ p. lifted l.fn.b.z1) l.fn.tops l.tops

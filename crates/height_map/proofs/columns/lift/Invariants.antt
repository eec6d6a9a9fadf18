use Rattle.std.proofs.Common.{◌≡◌}
use Rattle.height_map.specs.Columns.{Changes, covers, lifted}
use Rattle.height_map.proofs.columns.lift.Given as goal

abbrev pub invariant-loop-j : goal.invariant-loop-j
invariant-loop-j l = record {
  same : l.b ≡ l.fn.b;
  tops : Changes (covers l.fn.w (record l.fn.b { y1 = l.j })) (λ p. lifted l.fn.b.z1) l.fn.tops l.tops;
}

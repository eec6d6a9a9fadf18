use Rattle.std.proofs.Common.{◌≡◌, ◌<◌, ℕ, true, length, get_or}
use Rattle.height_map.specs.Columns.{covers}
use Rattle.height_map.proofs.columns.is_covered.Given as goal

abbrev pub invariant-loop-j : goal.invariant-loop-j
invariant-loop-j l = record {
  same : l.b ≡ l.fn.b;
  covered : (p : ℕ) → p < length l.tops → covers l.w (record l.fn.b { y1 = l.j }) p ≡ true → 0 < get_or l.tops p 0;
}

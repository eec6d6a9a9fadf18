use Rattle.std.proofs.Common.{◌+◌, ◌*◌, ◌<◌, ◌≤◌, ℕ, get_or}
use Rattle.height_map.proofs.columns.is_row_covered.Given as goal

abbrev pub invariant-loop-i : goal.invariant-loop-i
invariant-loop-i l = (i : ℕ) → l.fn.b.x0 ≤ i → i < l.i → 0 < get_or l.tops (l.j * l.w + i) 0

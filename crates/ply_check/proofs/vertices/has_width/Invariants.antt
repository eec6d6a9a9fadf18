-- As many tokens were seen as stand before those that are left.
use Rattle.std.proofs.Common.{◌≡◌, ◌+◌, ◌≤◌, length}
use Rattle.ply_check.proofs.vertices.has_width.Given as goal

abbrev pub invariant-loop-others : goal.invariant-loop-others
invariant-loop-others l = record {
  count : l.seen + length l.others ≡ 1 + length l.fn.line.others;
  positive : 1 ≤ l.seen;
}

abbrev pub decreases-loop-others : goal.decreases-loop-others
decreases-loop-others l = length l.others

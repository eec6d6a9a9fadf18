use Rattle.std.proofs.Common.{ℕ, [], ◌<◌, ◌≤◌, get_or}
use Rattle.std.specs.Prelude.{All}
use Rattle.ply_check.proofs.checking.top_of.Given as goal

abbrev pub invariant-loop-number : goal.invariant-loop-number
invariant-loop-number l = record {
  few : (count : ℕ) → All (All (λ v. v < count)) l.faces → l.top ≤ count;
  below : (k j : ℕ) → k < l.number → j < 3 → get_or (get_or l.faces k []) j 0 < l.top;
}

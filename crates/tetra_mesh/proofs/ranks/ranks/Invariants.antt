use Rattle.std.proofs.Common.{◌≡◌, ℕ, ◌/◌, ◌%◌, ◌<◌, length}
use Rattle.std.specs.Prelude.{get_or}
use Rattle.tetra_mesh.specs.Numbering.{rank_of}
use Rattle.tetra_mesh.proofs.ranks.ranks.Given as goal

abbrev pub invariant-loop-at : goal.invariant-loop-at
invariant-loop-at l = record {
  room : length l.ranks.items ≡ l.at;
  each : (k : ℕ) → k < l.at → get_or l.ranks.items k 0 ≡ rank_of (k / 8) (k % 8);
}

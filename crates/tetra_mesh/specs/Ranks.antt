-- A table of ranks.
use Rattle.std.specs.Prelude.{◌≡◌, ℕ, ◌/◌, ◌%◌, ◌<◌, List, get_or, length}
use Rattle.tetra_mesh.specs.Numbering.{rank_of}

-- the rank of each digit of each byte
pub record AreRanks (ranks : List ℕ) : Type 0 where
  pub room : length ranks ≡ 2048
  pub each : (at : ℕ) → at < 2048 → get_or ranks at 0 ≡ rank_of (at / 8) (at % 8)

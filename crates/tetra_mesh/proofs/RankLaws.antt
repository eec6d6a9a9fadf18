-- Ranks that are looked up.
use Rattle.std.proofs.Common.{◌≡◌, ℕ, ◌+◌, ◌*◌, ◌/◌, ◌%◌, ◌<◌, List, ap, ◌∙◌, arith}
use Rattle.std.specs.Prelude.{get_or}
use Rattle.tetra_mesh.specs.Numbering.{rank_of}
use Rattle.tetra_mesh.specs.Ranks.{AreRanks}

-- the rank of a digit stands at its place
pub rank_at : (ranks : List ℕ) (mask dir : ℕ) → AreRanks ranks → mask < 256 → dir < 8 → get_or ranks (mask * 8 + dir) 0 ≡ rank_of mask dir
rank_at ranks mask dir are few less =
    let over : (mask * 8 + dir) / 8 ≡ mask = omega arith in
    let under : (mask * 8 + dir) % 8 ≡ dir = omega arith in
    are.each (mask * 8 + dir) (omega arith) ∙ ap (λ (m : ℕ). rank_of m ((mask * 8 + dir) % 8)) over ∙ ap (rank_of mask) under

-- The parts of a line, and of the header.
use Rattle.std.proofs.Common.{◌≡◌, ℕ, List, ◌∷◌, ◌++◌, append_assoc}
use Rattle.std.specs.Prelude.{codes, decimal}
use Rattle.ply_writer.specs.Ply.{ply_header}

-- the line of a vertex, and what stands after it
pub vertex_pieces : (x y z rest : List ℕ) → x ++ 32 ∷ (y ++ 32 ∷ (z ++ 10 ∷ rest)) ≡ (x ++ codes " " ++ y ++ codes " " ++ z ++ codes "\n") ++ rest
vertex_pieces x y z rest = simp append_assoc

-- the line of a face, and what stands after it
pub face_pieces : (a b c rest : List ℕ) → 51 ∷ 32 ∷ (a ++ 32 ∷ (b ++ 32 ∷ (c ++ 10 ∷ rest))) ≡ (codes "3 " ++ a ++ codes " " ++ b ++ codes " " ++ c ++ codes "\n") ++ rest
face_pieces a b c rest = simp append_assoc

-- the header, and what stands after it
pub header_pieces : (vertices faces : ℕ) (rest : List ℕ)
    → codes "ply\nformat ascii 1.0\nelement vertex " ++ (decimal vertices ++ (codes "\nproperty double x\nproperty double y\nproperty double z\nelement face " ++ (decimal faces
    ++ (codes "\nproperty list uchar int vertex_indices\nend_header\n" ++ rest))))
    ≡ ply_header vertices faces ++ rest
header_pieces vertices faces rest = simp append_assoc

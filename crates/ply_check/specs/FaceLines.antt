-- What the line of a face says, by its tokens.
use Rattle.std.specs.Prelude.{ℕ, ◌&&◌, nat_lt, List, [], ◌∷◌, Option, Some, Result, Ok, Err, codes, if◌then◌else◌}
use Rattle.std.specs.Str.{bytes_eq}
use Rattle.fixed_ops.specs.Numerals.{digits_read}
use Rattle.ply_check.specs.declared.ply_reason.PlyReason.{PlyReason}
use Rattle.ply_check.specs.declared.ply_reason.PlyReason.TheVariants.{BadFace, BadIndex}

-- a face of three numbers of vertices, of which there are so many
abbrev pub face_of : ℕ → Option ℕ → Option ℕ → Option ℕ → Result (List ℕ) PlyReason
face_of count (Some a) (Some b) (Some c) =
    if nat_lt a count && nat_lt b count && nat_lt c count then Ok (a ∷ b ∷ c ∷ []) else Err BadIndex
face_of count a b c = Err BadFace

-- The face that a line says: `3` and three whole numbers of 1 to 10 digits, each of which is that
-- of a vertex. Where it has not this form, it is a bad face; and where it has, but a number is too
-- great, a bad index.
abbrev pub said_face : ℕ → List (List ℕ) → Result (List ℕ) PlyReason
said_face count (size ∷ a ∷ b ∷ c ∷ []) =
    if bytes_eq size (codes "3") then face_of count (digits_read 10 a) (digits_read 10 b) (digits_read 10 c)
    else Err BadFace
said_face count tokens = Err BadFace

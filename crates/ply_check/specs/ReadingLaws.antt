-- What always holds of reading.
use Rattle.std.specs.Prelude.{◌≡◌, ℕ, ◌<◌, ◌^◌, ◌⊎◌, List, length, All, Ok, Err}
use Rattle.ply_check.specs.declared.ply_reason.PlyReason.{PlyReason}
use Rattle.ply_check.specs.Answers.{fault_at, ply_answer}
use Rattle.ply_check.specs.PlyFiles.{PlyReads, PlyRefuses, ply_lines}

-- each file is read, or is refused
abbrev pub EachFileIsAnswered : Type 0
EachFileIsAnswered = (bytes : List ℕ) →
    ((count : ℕ) × (faces : List (List ℕ)) × PlyReads bytes count faces)
    ⊎ ((line : ℕ) × (reason : PlyReason) × PlyRefuses bytes line reason)

-- no file is both
abbrev pub NoneIsReadAndRefused : Type 0
NoneIsReadAndRefused = (bytes : List ℕ) (count : ℕ) (faces : List (List ℕ)) (line : ℕ)
    (reason : PlyReason) → PlyReads bytes count faces → PlyRefuses bytes line reason → ⊥

-- no file says two meshes
abbrev pub OneReading : Type 0
OneReading = (bytes : List ℕ) (count : ℕ) (faces : List (List ℕ)) (other : ℕ)
    (others : List (List ℕ)) → PlyReads bytes count faces → PlyReads bytes other others
    → (count ≡ other) × (faces ≡ others)

-- no file is refused on two lines, or for two reasons
abbrev pub OneRefusal : Type 0
OneRefusal = (bytes : List ℕ) (line : ℕ) (reason : PlyReason) (other : ℕ) (another : PlyReason)
    → PlyRefuses bytes line reason → PlyRefuses bytes other another
    → (line ≡ other) × (reason ≡ another)

-- a mesh has fewer than 2^31 faces, and each of their vertices is one of those that there are
pub record IsSmall (count : ℕ) (faces : List (List ℕ)) : Type 0 where
  pub few : length faces < 2 ^ 31
  pub below : All (All (λ v. v < count)) faces

abbrev pub FilesAreSmall : Type 0
FilesAreSmall = (bytes : List ℕ) (count : ℕ) (faces : List (List ℕ)) → PlyReads bytes count faces
    → IsSmall count faces

-- what a file says, and why one is refused, is worked out by its lines
abbrev pub ReadingIsWorkedOut : Type 0
ReadingIsWorkedOut = (bytes : List ℕ) (count : ℕ) (faces : List (List ℕ)) → PlyReads bytes count faces
    → ply_answer (ply_lines bytes) ≡ Ok (count, faces)

abbrev pub RefusalIsWorkedOut : Type 0
RefusalIsWorkedOut = (bytes : List ℕ) (line : ℕ) (reason : PlyReason) → PlyRefuses bytes line reason
    → ply_answer (ply_lines bytes) ≡ Err (fault_at line reason)

-- What reading a file gives.
use Rattle.std.specs.Prelude.{◌≡◌, ◌≢◌, ℕ, ◌<◌, List, ◌∷◌, ◌++◌, length, All, Result, Ok, Err, IsOk}
use Rattle.ply_check.specs.declared.ply_fault.PlyFault.{PlyFault}
use Rattle.ply_check.specs.declared.ply_file.PlyFile.{PlyFile}
use Rattle.ply_check.specs.declared.ply_reason.PlyReason.TheVariants.{NoMemory}
use Rattle.ply_check.specs.FaceLines.{said_face}
use Rattle.ply_check.specs.Headers.{Opens}
use Rattle.ply_check.specs.PlyFiles.{ply_lines, HasWidth, PlyReads, PlyRefuses, SayFaces}

-- memory may be wanted on the line of this number: it stands where that of a face is to stand, and says one
pub record MayWantMemory (bytes : List ℕ) (line : ℕ) : Type 0 where
  pub opening : List (ℕ × List (List ℕ))
  pub points : List (ℕ × List (List ℕ))
  pub before : List (ℕ × List (List ℕ))
  pub tokens : List (List ℕ)
  pub after : List (ℕ × List (List ℕ))
  pub count : ℕ
  pub width : ℕ
  pub faces : ℕ
  pub corners : List (List ℕ)
  pub parts : ply_lines bytes ≡ opening ++ (points ++ (before ++ (line, tokens) ∷ after))
  pub opens : Opens opening count width faces
  pub as_many : length points ≡ count
  pub wide : All (HasWidth width) points
  pub says : SayFaces count before corners
  pub few : length before < faces
  pub good : IsOk (said_face count tokens)

-- what the file says, or the very line and reason for which it is refused, or want of memory
abbrev pub Gives : List ℕ → Result PlyFile PlyFault → Type 0
Gives bytes (Ok file) = PlyReads bytes file.count file.faces.items
Gives bytes (Err fault) =
    (fault.reason ≢ NoMemory → PlyRefuses bytes fault.line fault.reason)
    × (fault.reason ≡ NoMemory → MayWantMemory bytes fault.line)

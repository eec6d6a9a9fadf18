-- What the texts of meshes are read as.
use Rattle.std.specs.Prelude.{◌≡◌, ℕ, ◌<◌, List, [], ◌∷◌, map, Result, Ok, Err}
use Rattle.kuhn_cells.specs.Faces.{Face}
use Rattle.ply_check.specs.declared.ply_fault.PlyFault.{PlyFault}
use Rattle.ply_check.specs.declared.ply_file.PlyFile.{PlyFile}
use Rattle.ply_check.specs.declared.ply_reason.PlyReason.{PlyReason}
use Rattle.ply_check.specs.declared.ply_reason.PlyReason.TheVariants.{NoMemory}
use Rattle.ply_check.specs.Gives.{Gives}
use Rattle.ply_check.specs.PlyFiles.{PlyReads, PlyRefuses}

-- the vertices of a face, as a file says them
abbrev pub corners_of : Face → List ℕ
corners_of f = f.a ∷ f.b ∷ f.c ∷ []

-- the corners of a face are vertices, of which there are so many
pub record HasCornersBelow (count : ℕ) (f : Face) : Type 0 where
  pub a : f.a < count
  pub b : f.b < count
  pub c : f.c < count

-- reading gives so many vertices and these faces, or memory is wanted for them
abbrev pub IsGivenMesh : ℕ → List Face → Result PlyFile PlyFault → Type 0
IsGivenMesh count faces (Ok file) =
    (file.count ≡ count) × (file.faces.items ≡ map corners_of faces)
IsGivenMesh count faces (Err fault) = fault.reason ≡ NoMemory

-- A file says that there are so many vertices, and these faces; it is read as no other mesh, and
-- refused on no line for any reason. So what reading it gives is this mesh, or want of memory.
pub record SaysMesh (bytes : List ℕ) (count : ℕ) (faces : List Face) : Type 0 where
  pub reads : PlyReads bytes count (map corners_of faces)
  pub only : (other : ℕ) (others : List (List ℕ)) → PlyReads bytes other others
      → (other ≡ count) × (others ≡ map corners_of faces)
  pub accepted : (line : ℕ) (reason : PlyReason) → ¬ PlyRefuses bytes line reason
  pub given : (result : Result PlyFile PlyFault) → Gives bytes result
      → IsGivenMesh count faces result

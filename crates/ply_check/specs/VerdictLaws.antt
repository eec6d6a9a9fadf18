-- The laws of findings.
use Rattle.std.specs.Prelude.{◌≡◌, ℕ, List, length, ◌↔◌}
use Rattle.kuhn_cells.specs.Faces.{Face as Triple, faces}
use Rattle.kuhn_cells.specs.Grids.{Grid, vertices}
use Rattle.mesh_laws.specs.Closed.{IsClosed}
use Rattle.mesh_laws.specs.Frames.{IsFramed}
use Rattle.mesh_laws.specs.Manifold.{IsManifold}
use Rattle.ply_check.specs.declared.finding.Finding.{Finding}
use Rattle.ply_check.specs.declared.finding.Finding.TheVariants.{Closed}
use Rattle.ply_check.specs.Findings.{finding_of}
use Rattle.ply_check.specs.Verdicts.{Verdict}

-- the verdict is Closed exactly where the faces are closed and a manifold
abbrev pub VerdictsAreExact : Type 0
VerdictsAreExact =
    (count : ℕ) (faces : List Triple)
    → Verdict count faces Closed ↔ (IsClosed faces × IsManifold count faces)

-- exactly one finding is right
pub record HasOneVerdict (count : ℕ) (faces : List Triple) : Type 0 where
  pub unique : (f g : Finding) → Verdict count faces f → Verdict count faces g → f ≡ g
  pub some : (f : Finding) × Verdict count faces f

abbrev pub OneFindingIsRight : Type 0
OneFindingIsRight = (count : ℕ) (faces : List Triple) → HasOneVerdict count faces

-- it is the one that is worked out
abbrev pub FindingsAreWorkedOut : Type 0
FindingsAreWorkedOut = (count : ℕ) (faces : List Triple) → Verdict count faces (finding_of count faces)

-- the verdict on the mesh of each grid is Closed
abbrev pub MeshesAreFoundClosed : Type 0
MeshesAreFoundClosed = (g : Grid) → IsFramed g → Verdict (length (vertices g)) (faces g) Closed

-- What is found of faces.
use Rattle.std.specs.Prelude.{◌≡◌, ℕ, List, length, All}
use Rattle.std.specs.List.{HoldsAt}
use Rattle.kuhn_cells.specs.Faces.{Face as Triple}
use Rattle.mesh_laws.specs.Closed.{IsTriangle, directed_edges, occurrences}
use Rattle.mesh_laws.specs.Manifold.{HasFan, IsManifold}
use Rattle.ply_check.specs.declared.finding.Finding.{Finding}
use Rattle.ply_check.specs.declared.finding.Finding.TheVariants.{Closed, Edge, Face, Vertex}
use Rattle.ply_check.specs.Lowest.{IsLowestFault}

-- among directed edges one occurs in one place only, and so does the edge back
pub record IsPaired (edges : List (ℕ × ℕ)) (e : ℕ × ℕ) : Type 0 where
  pub once : occurrences edges e.0 e.1 ≡ 1
  pub back : occurrences edges e.1 e.0 ≡ 1

-- each directed edge of some faces occurs in one place only, and so does the edge back
abbrev pub ArePaired : List Triple → Type 0
ArePaired faces = All (IsPaired (directed_edges faces)) (directed_edges faces)

-- A directed edge of some faces is the first that is not paired, in the order of the faces and, within
-- one, from its first vertex on.
pub record IsFirstUnpaired (faces : List Triple) (u v : ℕ) : Type 0 where
  pub place : ℕ
  pub lowest : IsLowestFault (HoldsAt (IsPaired (directed_edges faces)) (directed_edges faces))
      (length (directed_edges faces)) place
  pub there : HoldsAt (λ e. e ≡ (u, v)) (directed_edges faces) place

-- What is found of faces on the vertices below a count: the first face whose vertices do not all
-- differ; where there is none, the first edge that is not paired; where there is none either, the
-- lowest vertex without a fan; and otherwise that they are closed.
abbrev pub Verdict : ℕ → List Triple → Finding → Type 0
Verdict count faces (Face k) = IsLowestFault (HoldsAt IsTriangle faces) (length faces) k
Verdict count faces (Edge u v) = All IsTriangle faces × IsFirstUnpaired faces u v
Verdict count faces (Vertex v) =
    All IsTriangle faces × ArePaired faces × IsLowestFault (HasFan faces) count v
Verdict count faces Closed = All IsTriangle faces × ArePaired faces × IsManifold count faces

-- The text of a mesh of a solid is that of a sound mesh.
use Rattle.std.specs.Prelude.{◌≡◌, ◌≢◌, ℕ, List, AllPairs}
use Rattle.ply_writer.specs.Ply.{ply_of, vertex_line}
use Rattle.solid_model.specs.Values.{solid_value}
use Rattle.solid_model.specs.declared.clause.Clause.{Clause}
use Rattle.tetra_mesh.specs.Cuts.{mesh_of}
use Rattle.tetra_mesh.specs.Meshes.{Triangulation}
use Rattle.tetra_mesh.specs.Sound.{IsSound, raw_of}
use Rattle.view_places.specs.Window.{FitsMesh, IsWindow, Window}
use Rattle.model_frames.specs.Meshes.{grid_of, mesh_text}

-- A text is that of the mesh of a solid's grid over a view, which is closed, a manifold, and
-- separates the inside points of the grid from the outside ones; no two of its vertices have one
-- lattice place, one raw place or one line of the text.
pub record IsSoundText (view : Window) (clauses : List Clause) (text : List ℕ) : Type 0 where
  pub mesh : Triangulation
  pub «is» : mesh ≡ mesh_of (grid_of view (λ p. solid_value p clauses))
  pub text_is : text ≡ ply_of view mesh.vertices mesh.faces
  pub sound : IsSound (grid_of view (λ p. solid_value p clauses)) mesh
  pub places : AllPairs (λ u v. raw_of view u ≢ raw_of view v) mesh.vertices
  pub lines : AllPairs (λ u v. vertex_line view u ≢ vertex_line view v) mesh.vertices

-- so it is of each solid over each view of which a mesh may be made
abbrev pub MeshTextsAreSound : Type 0
MeshTextsAreSound =
    (view : Window) (clauses : List Clause) → IsWindow view → FitsMesh view
    → IsSoundText view clauses (mesh_text view clauses)

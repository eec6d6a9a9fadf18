-- The law of the texts of the meshes of models.
use Rattle.std.specs.Prelude.{ℕ, List, length}
use Rattle.kuhn_cells.specs.Faces.{faces}
use Rattle.kuhn_cells.specs.Grids.{Grid, vertices}
use Rattle.ply_check.specs.declared.finding.Finding.TheVariants.{Closed}
use Rattle.ply_check.specs.Verdicts.{Verdict}
use Rattle.model_frames.specs.Meshes.{grid_of, mesh_text}
use Rattle.solid_model.specs.Clauses.{IsModel}
use Rattle.solid_model.specs.Values.{solid_value}
use Rattle.solid_model.specs.declared.clause.Clause.{Clause}
use Rattle.view_places.specs.Window.{FitsMesh, IsWindow, Window}
use Rattle.checked_meshes.specs.Readings.{SaysMesh}

-- a file says the mesh of a grid, and the verdict on its faces is Closed
pub record SaysClosedMesh (g : Grid) (bytes : List ℕ) : Type 0 where
  pub says : SaysMesh bytes (length (vertices g)) (faces g)
  pub closed : Verdict (length (vertices g)) (faces g) Closed

-- the text of the mesh of each model, over each view of which a mesh may be made, says the mesh of its
-- grid, and the verdict on the faces is Closed
abbrev pub MeshTextsCheck : Type 0
MeshTextsCheck =
    (view : Window) (clauses : List Clause) → IsModel clauses → IsWindow view → FitsMesh view
    → SaysClosedMesh (grid_of view (λ p. solid_value p clauses)) (mesh_text view clauses)

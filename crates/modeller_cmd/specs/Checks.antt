-- What a run writes of a mesh that is checked.
use Rattle.std.specs.Prelude.{◌≡◌, ℕ, ◌≤◌, List, Ok, length}
use Rattle.kuhn_cells.specs.Faces.{faces}
use Rattle.kuhn_cells.specs.Grids.{Grid, vertices}
use Rattle.ply_check.specs.Reports.{finding_line}
use Rattle.ply_check.specs.declared.finding.Finding.{Finding}
use Rattle.ply_check.specs.declared.finding.Finding.TheVariants.{Closed}
use Rattle.ply_check.specs.Corners.{triples}
use Rattle.ply_check.specs.Verdicts.{Verdict}
use Rattle.model_frames.specs.Meshes.{grid_of, mesh_text}
use Rattle.ply_check.specs.PlyFiles.{PlyReads}
use Rattle.solid_model.specs.Clauses.{IsModel}
use Rattle.solid_model.specs.Values.{solid_value}
use Rattle.solid_model.specs.declared.clause.Clause.{Clause}
use Rattle.view_places.specs.Window.{FitsMesh, IsWindow, Window}
use Rattle.view_settings.specs.declared.job.Job.TheVariants.{Check}
use Rattle.modeller_cmd.specs.Answers.{MeshesAreRefused}
use Rattle.modeller_cmd.specs.Asking.{asked}
use Rattle.modeller_cmd.specs.Output.{Output, input_limit, output_of}
use Rattle.modeller_cmd.specs.Parts.{bytes_of_parts}
use Rattle.modeller_cmd.specs.declared.status.Status.TheVariants.{Done}

-- bytes are the line of the verdict on these faces, on so many vertices
pub record SaysVerdict (count : ℕ) (triangles : List (List ℕ)) (bytes : List ℕ) : Type 0 where
  pub finding : Finding
  pub right : Verdict count (triples triangles) finding
  pub says : bytes ≡ finding_line finding count (length triangles)

-- where the words of a run ask for a check, and its input says a mesh, it writes the line of the verdict
abbrev pub VerdictsAreWritten : List (List ℕ) → List ℕ → Type 0
VerdictsAreWritten words input =
    (count : ℕ) (triangles : List (List ℕ)) → asked words ≡ Ok Check → PlyReads input count triangles
    → (output_of words input).status ≡ Done
    → SaysVerdict count triangles (bytes_of_parts (output_of words input).parts)

-- an output is that the mesh of a grid is closed and a manifold
pub record SaysClosed (g : Grid) (output : Output) : Type 0 where
  pub done : output.status ≡ Done
  pub says : bytes_of_parts output.parts
      ≡ finding_line Closed (length (vertices g)) (length (faces g))

-- where they ask for a check, and the input is the text of the mesh of a model, over a view of which one
-- may be made, and is no longer than an input may be, that is what is written
abbrev pub WrittenMeshesPass : List (List ℕ) → List ℕ → Type 0
WrittenMeshesPass words input =
    (view : Window) (clauses : List Clause) → asked words ≡ Ok Check
    → IsModel clauses → IsWindow view → FitsMesh view → input ≡ mesh_text view clauses
    → length input ≤ input_limit
    → SaysClosed (grid_of view (λ p. solid_value p clauses)) (output_of words input)

-- this is so of all words and inputs
pub record ChecksAreExact : Type 0 where
  pub verdicts : (words : List (List ℕ)) (input : List ℕ) → VerdictsAreWritten words input
  pub passes : (words : List (List ℕ)) (input : List ℕ) → WrittenMeshesPass words input
  pub refused : (words : List (List ℕ)) (input : List ℕ) → MeshesAreRefused words input

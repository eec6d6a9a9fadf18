-- What a check writes is the line of the one verdict.
use Rattle.std.proofs.Common.{◌≡◌, ℕ, ◌≤◌, Bool, true, false, List, [], ◌∷◌, length, append-nil, Ok, refl, ap, sym, subst, ◌∙◌, arith}
use Rattle.std.specs.Prelude.{map, nat_lt}
use Rattle.std.proofs.lemmas.Bool.{ltb-false}
use Rattle.std.proofs.lemmas.List.{length-map}
use Rattle.checked_meshes.specs.Readings.{corners_of}
use Rattle.kuhn_cells.specs.Faces.{Face as Triple, faces}
use Rattle.kuhn_cells.specs.Grids.{vertices}
use Rattle.ply_check.specs.Reports.{finding_line, reported}
use Rattle.ply_check.specs.declared.finding.Finding.TheVariants.{Closed}
use Rattle.ply_check.specs.Corners.{triples}
use Rattle.ply_check.specs.Verdicts.{Verdict}
use Rattle.model_frames.specs.Meshes.{grid_of}
use Rattle.ply_check.specs.Answers.{fault_at}
use Rattle.ply_check.specs.PlyFiles.{PlyReads}
use Rattle.solid_model.specs.Values.{solid_value}
use Rattle.view_settings.specs.declared.job.Job.TheVariants.{Check}
use Rattle.modeller_cmd.specs.Answers.{MeshesAreRefused}
use Rattle.modeller_cmd.specs.Asking.{asked}
use Rattle.modeller_cmd.specs.Checks.{ChecksAreExact, VerdictsAreWritten, WrittenMeshesPass}
use Rattle.modeller_cmd.specs.Output.{input_limit, of_mesh, outcome, output_as}
use Rattle.modeller_cmd.specs.Parts.{bytes_of_parts}
use Rattle.modeller_cmd.specs.declared.status.Status.TheVariants.{Done}
use Rattle.modeller_cmd.proofs.Outcomes.{mesh_refused, mesh_reported}
use Rattle.checked_meshes.proofs.Meshes.{texts_check}
use Rattle.ply_check.proofs.Theorems.{refusals_are_reported, verdicts_are_reported}
use Rattle.ply_check.proofs.VerdictLaws.{one_finding_is_right}

outcome_of : (words : List (List ℕ)) (input : List ℕ) → asked words ≡ Ok Check → outcome words input ≡ of_mesh input
outcome_of words input is = rw is refl

-- an input on which is reported is no longer than is accepted
few_of : (input : List ℕ) → (output_as (of_mesh input)).status ≡ Done → length input ≤ input_limit
few_of input done = by (nat_lt input_limit (length input)) refl
  where
    by : (long : Bool) → nat_lt input_limit (length input) ≡ long → length input ≤ input_limit
    by true is = let refused = rw is at done in absurd (grind (arith, refused))
    by false is = ltb-false input_limit (length input) is

written : (input line : List ℕ) → length input ≤ input_limit → reported input ≡ Ok line → bytes_of_parts (output_as (of_mesh input)).parts ≡ line
written input line few says = ap (λ o. bytes_of_parts (output_as o).parts) (mesh_reported input line few says) ∙ append-nil line

verdicts_written : (words : List (List ℕ)) (input : List ℕ) → VerdictsAreWritten words input
verdicts_written words input count triangles asks reads done =
    let is = outcome_of words input asks in
    let found = (one_finding_is_right count (triples triangles)).some in
    let few = few_of input (ap (λ o. (output_as o).status) (sym is) ∙ done) in
    record {
      finding = found.0;
      right = found.1;
      says =
          ap (λ o. bytes_of_parts (output_as o).parts) is
          ∙ written input (finding_line found.0 count (length triangles)) few (verdicts_are_reported input count triangles found.0 reads found.1);
    }

-- the faces as they are written say the very faces
same_triples : (fs : List Triple) → triples (map corners_of fs) ≡ fs
same_triples [] = refl
same_triples (f ∷ fs) = ap (λ rest. f ∷ rest) (same_triples fs)

meshes_pass : (words : List (List ℕ)) (input : List ℕ) → WrittenMeshesPass words input
meshes_pass words input view clauses asks model window fits same few =
    let g = grid_of view (λ p. solid_value p clauses) in
    let is = outcome_of words input asks in
    let text = texts_check view clauses model window fits in
    let reads : PlyReads input (length (vertices g)) (map corners_of (faces g)) =
    subst (λ bytes. PlyReads bytes (length (vertices g)) (map corners_of (faces g))) (sym same) text.says.reads in
    let closed : Verdict (length (vertices g)) (triples (map corners_of (faces g))) Closed =
    subst (λ fs. Verdict (length (vertices g)) fs Closed) (sym (same_triples (faces g))) text.closed in
    let line = verdicts_are_reported input (length (vertices g)) (map corners_of (faces g)) Closed reads closed in
    let all = written input _ few line in
    record {
      done = ap (λ o. (output_as o).status) (is ∙ mesh_reported input _ few line);
      says =
          ap (λ o. bytes_of_parts (output_as o).parts) is
          ∙ (all ∙ ap (finding_line Closed (length (vertices g))) (length-map (faces g) corners_of));
    }

meshes_refused : (words : List (List ℕ)) (input : List ℕ) → MeshesAreRefused words input
meshes_refused words input line reason asks few refuses =
    let is = outcome_of words input asks ∙ mesh_refused input (fault_at line reason) few (refusals_are_reported input line reason refuses) in
    record { refused = ap (λ o. (output_as o).status) is; note = ap (λ o. (output_as o).note) is }

pub checks_are_exact : ChecksAreExact
checks_are_exact = record { verdicts = verdicts_written; passes = meshes_pass; refused = meshes_refused }

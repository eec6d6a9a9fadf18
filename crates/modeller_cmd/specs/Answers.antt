-- What a run answers to the text of a solid that is written as forms, and to a mesh that is refused.
use Rattle.std.specs.Prelude.{◌≡◌, ℕ, ◌≤◌, List, Ok, codes, length}
use Rattle.clause_reader.specs.ModelText.{model_text}
use Rattle.ply_check.specs.PlyFiles.{PlyRefuses}
use Rattle.ply_check.specs.declared.ply_reason.PlyReason.{PlyReason}
use Rattle.solid_lang.specs.Compiled.{compiled}
use Rattle.solid_lang.specs.Counts.{clause_count}
use Rattle.solid_lang.specs.Reading.{SolidReads}
use Rattle.solid_lang.specs.Refusing.{SolidRefuses}
use Rattle.solid_lang.specs.Solids.{SolidTree}
use Rattle.solid_lang.specs.declared.solid_reason.SolidReason.{SolidReason}
use Rattle.view_settings.specs.declared.job.Job.TheVariants.{Check, Solid}
use Rattle.modeller_cmd.specs.Asking.{asked}
use Rattle.modeller_cmd.specs.Names.{ply_reason_name, solid_reason_name}
use Rattle.modeller_cmd.specs.Notes.{fault_line}
use Rattle.modeller_cmd.specs.Output.{Output, input_limit, output_of}
use Rattle.modeller_cmd.specs.Parts.{bytes_of_parts}
use Rattle.modeller_cmd.specs.declared.status.Status.TheVariants.{BadModel, Done}

-- an output is this text
pub record WritesText (output : Output) (text : List ℕ) : Type 0 where
  pub done : output.status ≡ Done
  pub written : bytes_of_parts output.parts ≡ text

-- an output is the refusal of its text, on this line and for the reason of this name
pub record RefusesText (output : Output) (line : ℕ) (reason : List ℕ) : Type 0 where
  pub refused : output.status ≡ BadModel
  pub note : output.note ≡ fault_line (codes "line") line reason

-- where the words ask for the model of a solid, and the input says one of at most 65,535 clauses, it is
-- the text of the model that the solid compiles to
abbrev pub SolidsAreCompiled : List (List ℕ) → List ℕ → Type 0
SolidsAreCompiled words input =
    (solid : SolidTree) → asked words ≡ Ok Solid → length input ≤ input_limit
    → SolidReads input solid → clause_count solid ≤ 65535
    → WritesText (output_of words input) (model_text (compiled solid))

-- and where the input is refused as a solid, it is refused on that line and for that reason
abbrev pub SolidsAreRefused : List (List ℕ) → List ℕ → Type 0
SolidsAreRefused words input =
    (line : ℕ) (reason : SolidReason) → asked words ≡ Ok Solid → length input ≤ input_limit
    → SolidRefuses input line reason
    → RefusesText (output_of words input) line (solid_reason_name reason)

-- where they ask for a check, and the input is refused as a mesh, it is refused so, too
abbrev pub MeshesAreRefused : List (List ℕ) → List ℕ → Type 0
MeshesAreRefused words input =
    (line : ℕ) (reason : PlyReason) → asked words ≡ Ok Check → length input ≤ input_limit
    → PlyRefuses input line reason
    → RefusesText (output_of words input) line (ply_reason_name reason)

-- What a run gives for its words and its input: a status, the bytes in their parts, and a note
-- line.
use Rattle.std.specs.Prelude.{ℕ, nat_lt, List, [], ◌∷◌, length, Result, Ok, Err, if◌then◌else◌}
use Rattle.clause_reader.specs.Reading.{on_result, text_read}
use Rattle.edit_script.specs.Marks.{before_mark}
use Rattle.edit_script.specs.Scripts.{script_read}
use Rattle.edit_script.specs.declared.command.Command.{Command}
use Rattle.edit_script.specs.declared.script_fault.ScriptFault.{ScriptFault}
use Rattle.edit_session.specs.Sessions.{started}
use Rattle.ply_check.specs.Reports.{reported}
use Rattle.model_frames.specs.Frames.{Part, frame_part}
use Rattle.model_frames.specs.Work.{frame_work, no_work}
use Rattle.model_frames.specs.declared.frame.Frame.TheVariants as frames
use Rattle.solid_lang.specs.Translated.{translated}
use Rattle.solid_model.specs.declared.clause.Clause.{Clause}
use Rattle.view_places.specs.Window.{Window}
use Rattle.view_settings.specs.declared.job.Job.{Job}
use Rattle.view_settings.specs.declared.job.Job.TheVariants as jobs
use Rattle.modeller_cmd.specs.Asking.{asked}
use Rattle.modeller_cmd.specs.CountTexts.{count_text}
use Rattle.modeller_cmd.specs.Forging.{forge_part}
use Rattle.modeller_cmd.specs.Notes.{refusal_line}
use Rattle.modeller_cmd.specs.Replays.{replayed}
use Rattle.modeller_cmd.specs.Statuses.{status_of}
use Rattle.modeller_cmd.specs.declared.bad_text.BadText.TheVariants.{Mesh, Model, Solid}
use Rattle.modeller_cmd.specs.declared.refusal.Refusal.{Refusal}
use Rattle.modeller_cmd.specs.declared.refusal.Refusal.TheVariants.{Script, Text, TooLong}
use Rattle.modeller_cmd.specs.declared.status.Status.{Status}
use Rattle.modeller_cmd.specs.declared.status.Status.TheVariants as status

-- the most bytes that an input may have
abbrev pub input_limit : ℕ
input_limit = 8388608

-- the parts that a script makes of a solid, or why it makes none: those of its commands in a
-- session that begins with the solid
abbrev pub parts_replayed : List Clause → Result (List Command) ScriptFault
    → Result (List Part) Refusal
parts_replayed clauses (Ok commands) = Ok (replayed (started clauses) commands)
parts_replayed clauses (Err fault) = Err (Script fault)

-- the part that tells the work of an image
abbrev pub count_part : Window → List Clause → Part
count_part view clauses = record {
  bytes = count_text view clauses;
  work = frame_work view clauses;
}

-- What is made of an input of whose bytes these are the text of a solid: the input is refused where
-- it is too long, and else the text where it is none, and else what is made of the solid is.
abbrev pub of_solid : List ℕ → List ℕ → (List Clause → Result (List Part) Refusal)
    → Result (List Part) Refusal
of_solid input solid makes =
    if nat_lt input_limit (length input) then Err TooLong
    else on_result (text_read solid) makes (λ fault. Err (Text (Model fault)))

-- one part that is made of the solid of which an input is the text
abbrev pub of_model : List ℕ → (List Clause → Part) → Result (List Part) Refusal
of_model input part = of_solid input input (λ clauses. Ok (part clauses ∷ []))

-- the part that is a text for which nothing is evaluated
abbrev pub text_part : List ℕ → Part
text_part text = record { bytes = text; work = no_work }

-- What is made of an input that is the text of a solid, written as forms: it is refused where it is
-- too long, and else where it is no such text or means too many clauses, and else the text of the
-- model that it means is made.
abbrev pub of_forms : List ℕ → Result (List Part) Refusal
of_forms input =
    if nat_lt input_limit (length input) then Err TooLong
    else on_result (translated input) (λ text. Ok (text_part text ∷ []))
    (λ fault. Err (Text (Solid fault)))

-- What is made of an input that is a mesh, in the ASCII form of PLY: it is refused where it is too long,
-- and else where it is no such mesh, and else the line that says what is found of it is made.
abbrev pub of_mesh : List ℕ → Result (List Part) Refusal
of_mesh input =
    if nat_lt input_limit (length input) then Err TooLong
    else on_result (reported input) (λ line. Ok (text_part line ∷ []))
    (λ fault. Err (Text (Mesh fault)))

-- The parts that a job makes of an input, or why it makes none. What is forged is the same for
-- every input.
abbrev pub made : Job → List ℕ → Result (List Part) Refusal
made (jobs.Render view) input = of_model input (frame_part (frames.Render view))
made (jobs.Height view) input = of_model input (frame_part (frames.Height view))
made (jobs.Mesh view) input = of_model input (frame_part (frames.Mesh view))
made (jobs.Count view) input = of_model input (count_part view)
made jobs.Text input = of_model input (frame_part frames.Text)
made jobs.Replay input =
    of_solid input (before_mark input) (λ clauses. parts_replayed clauses (script_read input))
made (jobs.Forge forge) input = Ok (forge_part forge ∷ [])
made (jobs.Shade view) input = of_model input (frame_part (frames.Shade view))
made (jobs.Contour view) input = of_model input (frame_part (frames.Contour view))
made jobs.Solid input = of_forms input
made jobs.Check input = of_mesh input

-- the parts that a run writes, or why it writes none
abbrev pub outcome : List (List ℕ) → List ℕ → Result (List Part) Refusal
outcome words input = by (asked words)
  where
    by : Result Job Refusal → Result (List Part) Refusal
    by (Ok job) = made job input
    by (Err refusal) = Err refusal

-- a status, the parts for the sink, and the line for the notes
pub record Output : Type 0 where
  pub status : Status
  pub parts : List Part
  pub note : List ℕ

-- an outcome as an output
abbrev pub output_as : Result (List Part) Refusal → Output
output_as (Ok parts) = record { status = status.Done; parts = parts; note = [] }
output_as (Err refusal) =
    record { status = status_of refusal; parts = []; note = refusal_line refusal }

-- what a run gives for these words and this input, where nothing fails
abbrev pub output_of : List (List ℕ) → List ℕ → Output
output_of words input = output_as (outcome words input)

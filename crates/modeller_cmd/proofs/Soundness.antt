-- What a run writes of a mesh is the text of a sound one.
use Rattle.std.proofs.Common.{◌≡◌, ℕ, ◌≤◌, Bool, true, false, List, [], ◌∷◌, ◌++◌, length, append-nil, Result, Ok, Err, refl, ap, sym, subst, ◌∙◌, arith}
use Rattle.std.specs.Prelude.{All, IfOk, nat_lt}
use Rattle.std.proofs.lemmas.Bool.{ltb-false}
use Rattle.clause_reader.specs.ModelText.{model_text}
use Rattle.clause_reader.specs.Reading.{text_read}
use Rattle.model_frames.specs.ClosedTexts.{IsClosedText}
use Rattle.model_frames.specs.Contours.{contour_text}
use Rattle.edit_script.specs.Commands.{MayBeDrawn}
use Rattle.edit_script.specs.Marks.{before_mark}
use Rattle.edit_script.specs.Scripts.{script_read}
use Rattle.edit_script.specs.declared.command.Command.{Command}
use Rattle.edit_script.specs.declared.command.Command.TheVariants as commands
use Rattle.edit_session.specs.Sessions.{started}
use Rattle.model_frames.specs.Meshes.{mesh_text}
use Rattle.model_frames.specs.SoundTexts.{IsSoundText}
use Rattle.solid_lang.specs.Compiled.{compiled}
use Rattle.solid_lang.specs.Judged.{fault_at}
use Rattle.solid_lang.specs.Reading.{SolidReads}
use Rattle.solid_lang.specs.Solids.{SolidTree}
use Rattle.solid_lang.specs.Translated.{translated}
use Rattle.solid_lang.specs.TranslationLaws.{SaysValuesOf}
use Rattle.solid_lang.specs.declared.solid_fault.SolidFault.{SolidFault}
use Rattle.view_settings.specs.Verbs.{IsJob}
use Rattle.view_settings.specs.declared.job.Job.{Job}
use Rattle.view_settings.specs.declared.job.Job.TheVariants.{Contour, Mesh, Replay, Solid}
use Rattle.modeller_cmd.specs.Answers.{SolidsAreCompiled, SolidsAreRefused}
use Rattle.modeller_cmd.specs.Asking.{asked}
use Rattle.view_places.specs.Window.{Window}
use Rattle.solid_model.specs.declared.clause.Clause.{Clause}
use Rattle.modeller_cmd.specs.Output.{input_limit, made, of_forms, output_as, parts_replayed}
use Rattle.model_frames.specs.Frames.{frame_part}
use Rattle.modeller_cmd.specs.Parts.{bytes_of_parts}
use Rattle.modeller_cmd.specs.Replays.{framed, replayed, standing, state_after}
use Rattle.modeller_cmd.specs.Laws.{Laws}
use Rattle.modeller_cmd.specs.SoundTexts.{ContoursAreClosed, HasSoundFrame, MeshFramesAreSound, MeshesAreSound, SolidsKeepValues}
use Rattle.model_frames.specs.declared.frame.Frame.TheVariants as frames
use Rattle.modeller_cmd.specs.declared.refusal.Refusal.{Refusal}
use Rattle.modeller_cmd.specs.declared.status.Status.TheVariants.{Done}
use Rattle.modeller_cmd.proofs.Checks.{checks_are_exact}
use Rattle.modeller_cmd.proofs.Outcomes.{few_of, forms_refused, forms_translated, model_read, outcome_of, solid_read}
use Rattle.modeller_cmd.proofs.ReplayLaws.{replayed-between}
use Rattle.modeller_cmd.proofs.Theorems.{models_are_shown}
use Rattle.modeller_cmd.proofs.WorkSums.{All-between}
use Rattle.clause_reader.proofs.Said.{reads_exactly, refuses_exactly}
use Rattle.edit_script.proofs.CommandLaws.{draws-may-be-drawn}
use Rattle.model_frames.proofs.Closed.{texts_closed}
use Rattle.model_frames.proofs.SoundTexts.{texts_are_sound}
use Rattle.solid_lang.proofs.Translations.{refusals_stand, solids_are_translated, translations_keep_values}

-- a job that words are found to ask for keeps what jobs keep
job_kept : (r : Result Job Refusal) (job : Job) → r ≡ Ok job → IfOk r IsJob → IsJob job
job_kept r job is keeps = subst (λ o. IfOk o IsJob) is keeps

run_is_sound : (words : List (List ℕ)) (input : List ℕ) (r : Result Job Refusal) → r ≡ asked words → IfOk r IsJob → MeshesAreSound words input
run_is_sound words input r is keeps view clauses asks reads done =
    let job = job_kept r (Mesh view) (is ∙ asks) keeps in
    let made_of = outcome_of words input (Mesh view) asks in
    let few = few_of input input (λ solid. Ok (frame_part (frames.Mesh view) solid ∷ [])) (ap (λ o. (output_as o).status) (sym made_of) ∙ done) in
    let parts = ap (λ o. (output_as o).parts) (made_of ∙ model_read input (frame_part (frames.Mesh view)) clauses few reads) in
    let one : mesh_text view clauses ++ [] ≡ mesh_text view clauses = append-nil (mesh_text view clauses) in
    let bytes = ap bytes_of_parts parts ∙ one in
    subst (IsSoundText view clauses) (sym bytes) (texts_are_sound view clauses job.0 job.1)

-- and so it is of the paths of a contour
run_is_closed : (words : List (List ℕ)) (input : List ℕ) (r : Result Job Refusal) → r ≡ asked words → IfOk r IsJob → ContoursAreClosed words input
run_is_closed words input r is keeps view clauses asks reads done =
    let job = job_kept r (Contour view) (is ∙ asks) keeps in
    let made_of = outcome_of words input (Contour view) asks in
    let few = few_of input input (λ solid. Ok (frame_part (frames.Contour view) solid ∷ [])) (ap (λ o. (output_as o).status) (sym made_of) ∙ done) in
    let parts = ap (λ o. (output_as o).parts) (made_of ∙ model_read input (frame_part (frames.Contour view)) clauses few reads) in
    let one : contour_text view clauses ++ [] ≡ contour_text view clauses = append-nil (contour_text view clauses) in
    let bytes = ap bytes_of_parts parts ∙ one in
    subst (IsClosedText view clauses) (sym bytes) (texts_closed view clauses job.1)

-- and the model of a solid has its values
run_keeps : (input : List ℕ) (solid : SolidTree) → SolidReads input solid → (output_as (of_forms input)).status ≡ Done
    → SaysValuesOf solid (bytes_of_parts (output_as (of_forms input)).parts)
run_keeps input solid reads done = by (nat_lt input_limit (length input)) refl
  where
    written : length input ≤ input_limit → (r : Result (List ℕ) SolidFault) → translated input ≡ r → SaysValuesOf solid (bytes_of_parts (output_as (of_forms input)).parts)
    written few (Ok text) means =
        let made = forms_translated input text few means in
        let bytes : bytes_of_parts (output_as (of_forms input)).parts ≡ text = ap (λ o. bytes_of_parts (output_as o).parts) made ∙ append-nil text in
        subst (SaysValuesOf solid) (sym bytes) (translations_keep_values input solid text reads means)
    written few (Err fault) means =
        let refused = subst (λ o. (output_as o).status ≡ Done) (forms_refused input fault few means) done in
        absurd (grind (arith, refused))

    by : (long : Bool) → nat_lt input_limit (length input) ≡ long → SaysValuesOf solid (bytes_of_parts (output_as (of_forms input)).parts)
    by true is = let refused = rw is at done in absurd (grind (arith, refused))
    by false is = written (ltb-false input_limit (length input) is) (translated input) refl

run_keeps_values : (words : List (List ℕ)) (input : List ℕ) → SolidsKeepValues words input
run_keeps_values words input solid asks reads done =
    let made_of = outcome_of words input Solid asks in
    subst (λ o. SaysValuesOf solid (bytes_of_parts (output_as o).parts)) (sym made_of)
    (run_keeps input solid reads (ap (λ o. (output_as o).status) (sym made_of) ∙ done))

-- a solid becomes the model that it compiles to, or is refused
run_compiles : (words : List (List ℕ)) (input : List ℕ) → SolidsAreCompiled words input
run_compiles words input solid asks few reads small =
    let text = model_text (compiled solid) in
    let is = outcome_of words input Solid asks ∙ forms_translated input text few (solids_are_translated input solid reads small) in
    record {
      done = ap (λ o. (output_as o).status) is;
      written = ap (λ o. bytes_of_parts (output_as o).parts) is ∙ append-nil text;
    }

run_refuses : (words : List (List ℕ)) (input : List ℕ) → SolidsAreRefused words input
run_refuses words input line reason asks few refuses =
    let is = outcome_of words input Solid asks ∙ forms_refused input (fault_at line reason) few (refusals_stand input line reason refuses) in
    record { refused = ap (λ o. (output_as o).status) is; note = ap (λ o. (output_as o).note) is }

-- what the commands of a script write for a mesh is the frame of the text of a sound one
script_frames : (clauses : List Clause) (before after : List Command) (view : Window) (input : List ℕ) → length input ≤ input_limit
    → text_read (before_mark input) ≡ Ok clauses → script_read input ≡ Ok (before ++ commands.Mesh view ∷ after) → IfOk (script_read input) (All MayBeDrawn)
    → HasSoundFrame view (standing (started clauses) before).clauses (replayed (started clauses) before) (output_as (made Replay input)).parts
script_frames clauses before after view input few reads says keeps =
    let shown = standing (started clauses) before in
    let all = subst (λ r. IfOk r (All MayBeDrawn)) says keeps in
    let fits = All-between MayBeDrawn before (commands.Mesh view) after all in
    let written = solid_read input (before_mark input) (λ solid. parts_replayed solid (script_read input)) clauses few reads ∙ ap (parts_replayed clauses) says in
    let after_it = replayed (state_after shown (commands.Mesh view)) after in
    record {
      text = mesh_text view shown.clauses;
      sound = texts_are_sound view shown.clauses fits.0 fits.1;
      frame = framed (frames.Mesh view) shown;
      bytes = refl;
      after = after_it;
      stands = ap (λ o. (output_as o).parts) written ∙ replayed-between (started clauses) before (commands.Mesh view) after;
    }

-- so it is of every run
frames_are_sound : (words : List (List ℕ)) (input : List ℕ) → MeshFramesAreSound words input
frames_are_sound words input clauses before after view replays reads says done =
    let made_of = outcome_of words input Replay replays in
    let finished = ap (λ o. (output_as o).status) (sym made_of) ∙ done in
    let few = few_of input (before_mark input) (λ solid. parts_replayed solid (script_read input)) finished in
    subst (HasSoundFrame view (standing (started clauses) before).clauses (replayed (started clauses) before)) (ap (λ o. (output_as o).parts) (sym made_of))
    (script_frames clauses before after view input few reads says (draws-may-be-drawn input))

-- all that is so of the output of these words
pub laws_of : (words : List (List ℕ)) (input : List ℕ) (r : Result Job Refusal) → r ≡ asked words → IfOk r IsJob → Laws words input
laws_of words input r is keeps = record {
  reading = reads_exactly;
  refusing = refuses_exactly;
  sound = run_is_sound words input r is keeps;
  sound_frames = frames_are_sound words input;
  closed = run_is_closed words input r is keeps;
  compiled = run_compiles words input;
  values = run_keeps_values words input;
  refused_solids = run_refuses words input;
  verdicts = checks_are_exact.verdicts words input;
  passes = checks_are_exact.passes words input;
  refused_meshes = checks_are_exact.refused words input;
  frames = models_are_shown.frames words input;
  undos = models_are_shown.undos words input;
}

-- Each frame of a script shows a model, and after undos the one before the edits.
use Rattle.std.proofs.Common.{◌≡◌, ℕ, List, [], ◌∷◌, ◌++◌, Result, Ok, Err, refl, ap, sym, subst, ◌∙◌, append_assoc}
use Rattle.std.specs.Prelude.{All, IfOk}
use Rattle.clause_reader.specs.Reading.{text_read}
use Rattle.edit_script.specs.Commands.{IsCommand}
use Rattle.edit_script.specs.Marks.{before_mark}
use Rattle.edit_script.specs.Scripts.{script_read}
use Rattle.edit_script.specs.declared.command.Command.{Command}
use Rattle.edit_script.specs.declared.command.Command.TheVariants as commands
use Rattle.edit_session.specs.Sessions.{State, model_of, started}
use Rattle.solid_model.specs.Clauses.{IsModel}
use Rattle.solid_model.specs.Edited.{Edited}
use Rattle.solid_model.specs.Edits.{edited}
use Rattle.solid_model.specs.declared.clause.Clause.{Clause}
use Rattle.solid_model.specs.declared.edit.Edit.{Edit}
use Rattle.solid_model.specs.declared.edit.EditFault.{EditFault}
use Rattle.view_settings.specs.declared.job.Job.TheVariants.{Replay}
use Rattle.modeller_cmd.specs.Asking.{asked}
use Rattle.modeller_cmd.specs.Output.{output_as, output_of, parts_replayed}
use Rattle.modeller_cmd.specs.Replays.{after_undo, replayed, standing, state_after}
use Rattle.modeller_cmd.specs.ShownModels.{FramesShowModels, ModelsAreShown, UndosBringFramesBack}
use Rattle.modeller_cmd.specs.Undoing.{HasFrame}
use Rattle.modeller_cmd.specs.declared.status.Status.TheVariants.{Done}
use Rattle.modeller_cmd.proofs.Outcomes.{few_of, outcome_of, solid_read}
use Rattle.modeller_cmd.proofs.Undoing.{accepted-next, first, frames-show, others, refused-next, standing-append, undos-lead-back}
use Rattle.edit_script.proofs.CommandLaws.{read-scripts-are-commands}
use Rattle.solid_model.proofs.SurgeryModels.{edits-models}
use Rattle.solid_model.proofs.InverseLemmas.{taken-back}
use Rattle.clause_reader.proofs.ReadModels.{read-texts-are-models}
use Rattle.fixed_ops.proofs.Lists.{all_left, all_right}

-- the parts of a run of a script are those of its commands
script-parts : (words : List (List ℕ)) (input : List ℕ) (clauses : List Clause) (commands : List Command) → asked words ≡ Ok Replay
    → text_read (before_mark input) ≡ Ok clauses → script_read input ≡ Ok commands → (output_of words input).status ≡ Done
    → (output_of words input).parts ≡ replayed (started clauses) commands
script-parts words input clauses commands asks reads says done =
    let made_of = outcome_of words input Replay asks in
    let few = few_of input (before_mark input) (λ solid. parts_replayed solid (script_read input)) (ap (λ o. (output_as o).status) (sym made_of) ∙ done) in
    ap (λ o. (output_as o).parts)
    (made_of ∙ solid_read input (before_mark input) (λ solid. parts_replayed solid (script_read input)) clauses few reads ∙ ap (parts_replayed clauses) says)

pub frames-show-models : (words : List (List ℕ)) (input : List ℕ) → FramesShowModels words input
frames-show-models words input clauses before after frame draw by asks reads says done =
    subst (HasFrame frame (standing (started clauses) before).clauses (replayed (started clauses) before))
    (sym (script-parts words input clauses (before ++ draw ∷ after) asks reads says done)) (frames-show (started clauses) before after frame draw by)

-- a model, and edits that take others back, each of which is accepted in its turn and leads to a model
abbrev Stands : List Clause → List Edit → Type 0
Stands clauses [] = IsModel clauses
Stands clauses (edit ∷ edits) = (old : List Clause) × IsModel clauses × (edited clauses edit ≡ Ok old) × Stands old edits

model-stands : (clauses : List Clause) (edits : List Edit) → Stands clauses edits → IsModel clauses
model-stands clauses [] stands = stands
model-stands clauses (edit ∷ edits) (old, model, back, stands) = model

abbrev StandsIn : State → Type 0
StandsIn state = Stands state.clauses state.undo

stands-after : (state : State) (command : Command) → IsCommand command → StandsIn state → StandsIn (state_after state command)
stands-after state (commands.Edit line edit) is stands = by (edited state.clauses edit) refl
  where
    by : (r : Result (List Clause) EditFault) → edited state.clauses edit ≡ r → StandsIn (state_after state (commands.Edit line edit))
    by (Ok new) at =
        let model = model-stands state.clauses state.undo stands in
        let back = (taken-back state.clauses edit new model is at).back in
        subst StandsIn (sym (accepted-next state line edit new at)) (state.clauses, edits-models state.clauses edit new model.clauses_are is at, back, stands)
    by (Err fault) at = subst StandsIn (sym (refused-next state line edit fault at)) stands
stands-after state (commands.Undo line) is stands = by state.undo stands
  where
    by : (undo : List Edit) → Stands state.clauses undo → StandsIn (after_undo state undo)
    by [] none = stands
    by (last ∷ others) (old, model, back, rest) = rw back rest
stands-after state other is stands = stands

stands-standing : (state : State) (commands : List Command) → All IsCommand commands → StandsIn state → StandsIn (standing state commands)
unfolding standing
stands-standing state [] are stands = stands
stands-standing state (command ∷ commands) are stands =
    stands-standing (state_after state command) commands (others command commands are) (stands-after state command (first command commands are) stands)

undos-bring-frames-back : (words : List (List ℕ)) (input : List ℕ)
    → UndosBringFramesBack words input
undos-bring-frames-back words input clauses before there back after frame draw by asks reads says taken_back done =
    let opened = started clauses in
    let stood = standing opened before in
    let left = draw ∷ after in
    let all : All IsCommand (before ++ there ++ back ++ left) = subst (λ r. IfOk r (All IsCommand)) says (read-scripts-are-commands input) in
    let edits_are = all_left IsCommand (before ++ there) back (all_left IsCommand (before ++ there ++ back) left all) in
    let before_are = all_left IsCommand before there edits_are in
    let there_are = all_right IsCommand before there edits_are in
    let model = model-stands stood.clauses stood.undo (stands-standing opened before before_are (read-texts-are-models (before_mark input) clauses reads)) in
    let again : model_of (standing opened (before ++ there ++ back)) ≡ model_of stood =
    ap (λ commands. model_of (standing opened commands)) (append_assoc before there back) ∙ ap model_of (standing-append opened before (there ++ back))
    ∙ undos-lead-back stood there back model there_are taken_back in
    subst (λ now. HasFrame frame now (replayed opened (before ++ there ++ back)) (output_of words input).parts) (ap (λ (m : Edited). m.clauses) again)
    (frames-show-models words input clauses (before ++ there ++ back) after frame draw by asks reads says done)

pub models-are-shown : ModelsAreShown
models-are-shown = record { frames = frames-show-models; undos = undos-bring-frames-back }

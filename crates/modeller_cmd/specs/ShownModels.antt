-- What a run of a script shows: each frame the model that stands, and after undos the one before the edits.
use Rattle.std.specs.Prelude.{◌≡◌, ℕ, List, ◌∷◌, ◌++◌, Some, Ok}
use Rattle.clause_reader.specs.Reading.{text_read}
use Rattle.edit_script.specs.Marks.{before_mark}
use Rattle.edit_script.specs.Scripts.{script_read}
use Rattle.edit_script.specs.declared.command.Command.{Command}
use Rattle.edit_session.specs.Sessions.{started}
use Rattle.model_frames.specs.declared.frame.Frame.{Frame}
use Rattle.solid_model.specs.declared.clause.Clause.{Clause}
use Rattle.view_settings.specs.declared.job.Job.TheVariants.{Replay}
use Rattle.modeller_cmd.specs.Asking.{asked}
use Rattle.modeller_cmd.specs.Output.{output_of}
use Rattle.modeller_cmd.specs.Replays.{replayed, standing}
use Rattle.modeller_cmd.specs.Undoing.{AreTakenBack, HasFrame, drawn_by}
use Rattle.modeller_cmd.specs.declared.status.Status.TheVariants.{Done}

-- where the words of a run ask for a script, and one of its commands for a frame, what the run writes for
-- that command, after what it writes for the commands before it, is the frame of the model then standing
abbrev pub FramesShowModels : List (List ℕ) → List ℕ → Type 0
FramesShowModels words input =
    (clauses : List Clause) (before after : List Command) (frame : Frame) (draw : Command)
    → drawn_by frame ≡ Some draw → asked words ≡ Ok Replay → text_read (before_mark input) ≡ Ok clauses
    → script_read input ≡ Ok (before ++ draw ∷ after)
    → (output_of words input).status ≡ Done
    → HasFrame frame (standing (started clauses) before).clauses
    (replayed (started clauses) before) (output_of words input).parts

-- where others of its commands were taken back before that one, it is the frame of the model that stood
-- before these: the same bytes as a frame there
abbrev pub UndosBringFramesBack : List (List ℕ) → List ℕ → Type 0
UndosBringFramesBack words input =
    (clauses : List Clause) (before there back after : List Command) (frame : Frame) (draw : Command)
    → drawn_by frame ≡ Some draw → asked words ≡ Ok Replay → text_read (before_mark input) ≡ Ok clauses
    → script_read input ≡ Ok (before ++ there ++ back ++ draw ∷ after)
    → AreTakenBack (standing (started clauses) before) there back
    → (output_of words input).status ≡ Done
    → HasFrame frame (standing (started clauses) before).clauses
    (replayed (started clauses) (before ++ there ++ back)) (output_of words input).parts

-- this is so of all words and inputs
pub record ModelsAreShown : Type 0 where
  pub frames : (words : List (List ℕ)) (input : List ℕ) → FramesShowModels words input
  pub undos : (words : List (List ℕ)) (input : List ℕ) → UndosBringFramesBack words input

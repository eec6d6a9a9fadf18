-- What the undos of a script lead back to, and what its frames show on the way.
use Rattle.std.specs.Prelude.{◌≡◌, ℕ, ◌+◌, Bool, true, false, List, [], ◌∷◌, ◌++◌, length, filter, All, Option, Some, None}
use Rattle.clause_reader.specs.Reading.{on_result}
use Rattle.edit_script.specs.Commands.{IsCommand}
use Rattle.edit_script.specs.declared.command.Command.{Command}
use Rattle.edit_script.specs.declared.command.Command.TheVariants as commands
use Rattle.edit_session.specs.Sessions.{State, model_of}
use Rattle.model_frames.specs.Frames.{Part, frame_name, frame_part}
use Rattle.model_frames.specs.declared.frame.Frame.{Frame}
use Rattle.model_frames.specs.declared.frame.Frame.TheVariants as frames
use Rattle.solid_model.specs.Clauses.{IsModel}
use Rattle.solid_model.specs.Edits.{edited}
use Rattle.solid_model.specs.declared.clause.Clause.{Clause}
use Rattle.modeller_cmd.specs.Frames.{frame_of}
use Rattle.modeller_cmd.specs.Replays.{replayed, standing, state_after}

-- a command is an undo, and how many of some are
abbrev pub is_undo : Command → Bool
is_undo (commands.Undo line) = true
is_undo other = false

abbrev pub undos_among : List Command → ℕ
undos_among commands = length (filter is_undo commands)

-- how many edits a session accepts of a command, and of commands one after the other
abbrev pub edits_at : State → Command → ℕ
edits_at state (commands.Edit line edit) = on_result (edited state.clauses edit) (λ new. 1) (λ fault. 0)
edits_at state other = 0

abbrev pub edits_among : State → List Command → ℕ
edits_among state [] = 0
edits_among state (command ∷ commands) =
    edits_at state command + edits_among (state_after state command) commands

-- Some commands, none of them an undo, are taken back by others: of these no edit is accepted, and as many
-- are undos as edits were accepted before. Frames, edits that are refused and all else may stand between.
pub record AreTakenBack (state : State) (there back : List Command) : Type 0 where
  pub no_undo : undos_among there ≡ 0
  pub no_edit : edits_among (standing state there) back ≡ 0
  pub as_many : undos_among back ≡ edits_among state there

-- they lead back to the clauses of a model, and to what takes back the edits before
abbrev pub UndosLeadBack : Type 0
UndosLeadBack =
    (state : State) (there back : List Command) → IsModel state.clauses → All IsCommand there
    → AreTakenBack state there back → model_of (standing state (there ++ back)) ≡ model_of state

-- the command that draws a frame: there is none for a shaded height map, and none for a contour
abbrev pub drawn_by : Frame → Option Command
drawn_by (frames.Render view) = Some (commands.Render view)
drawn_by (frames.Height view) = Some (commands.Height view)
drawn_by (frames.Shade view) = None
drawn_by (frames.Mesh view) = Some (commands.Mesh view)
drawn_by (frames.Contour view) = None
drawn_by frames.Text = Some commands.Text

-- Behind some parts stands the frame of some clauses, as it is of a session that begins with these.
pub record HasFrame (frame : Frame) (clauses : List Clause) (before parts : List Part) : Type 0 where
  pub part : Part
  pub bytes : part.bytes ≡ frame_of (frame_name frame) (frame_part frame clauses).bytes
  pub after : List Part
  pub stands : parts ≡ before ++ part ∷ after

-- each frame of a script shows the clauses that stand where it comes, whatever was edited, taken back
-- or drawn before
abbrev pub FramesShowWhatStands : Type 0
FramesShowWhatStands =
    (state : State) (before after : List Command) (frame : Frame) (draw : Command)
    → drawn_by frame ≡ Some draw
    → HasFrame frame (standing state before).clauses (replayed state before)
    (replayed state (before ++ draw ∷ after))

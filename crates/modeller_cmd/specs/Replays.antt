-- What the commands of a script make of a session, one after the other.
use Rattle.std.specs.Prelude.{ℕ, List, [], ◌∷◌, ◌++◌, codes, fold}
use Rattle.clause_reader.specs.Reading.{on_result}
use Rattle.edit_script.specs.declared.command.Command.{Command}
use Rattle.edit_script.specs.declared.command.Command.TheVariants as commands
use Rattle.edit_session.specs.Sessions.{Cost, State, after_edit, after_frame, session_part, with_model}
use Rattle.model_frames.specs.Frames.{Part, frame_name}
use Rattle.model_frames.specs.Work.{no_work}
use Rattle.model_frames.specs.declared.frame.Frame.{Frame}
use Rattle.model_frames.specs.declared.frame.Frame.TheVariants as frames
use Rattle.solid_model.specs.Edited.{given_or}
use Rattle.solid_model.specs.Edits.{edited}
use Rattle.solid_model.specs.declared.edit.Edit.{Edit}
use Rattle.solid_model.specs.declared.edit.EditFault.{EditFault}
use Rattle.solid_model.specs.declared.edit.EditFault.TheVariants.{NothingToUndo, UnknownName}
use Rattle.modeller_cmd.specs.CountTexts.{cost_text}
use Rattle.modeller_cmd.specs.Frames.{frame_of, refused_line}

-- a frame of a session behind the line that tells of it, which takes no work
abbrev pub framed : Frame → State → Part
framed frame state =
    let part = session_part state frame in
    record { bytes = frame_of (frame_name frame) part.bytes; work = part.work }

-- the frame that tells what an image took, which takes no work
abbrev pub cost_part : Cost → Part
cost_part cost = record { bytes = frame_of (codes "cost") (cost_text cost); work = no_work }

-- the line of an edit or an undo that is refused, which takes no work
abbrev pub refusal : ℕ → EditFault → Part
refusal line fault = record { bytes = refused_line line fault; work = no_work }

-- what an undo writes where these edits take back what was accepted: its line where there is none
abbrev pub undo_parts : ℕ → List Edit → List Part
undo_parts line [] = refusal line NothingToUndo ∷ []
undo_parts line (last ∷ others) = []

-- the parts that a command writes of a session: nothing for an edit that is accepted or taken back,
-- the line of one that is refused and of an undo that finds no edit, a frame of what is drawn, and one
-- of the cost of the last image. An edit with a token that begins with `#` is refused as one of a name
-- that is unknown.
abbrev pub parts_at : State → Command → List Part
parts_at state (commands.Edit line edit) =
    on_result (edited state.clauses edit) (λ new. []) (λ fault. refusal line fault ∷ [])
parts_at state (commands.Stray line) = refusal line UnknownName ∷ []
parts_at state (commands.Undo line) = undo_parts line state.undo
parts_at state (commands.Render view) = framed (frames.Render view) state ∷ []
parts_at state (commands.Height view) = framed (frames.Height view) state ∷ []
parts_at state (commands.Mesh view) = framed (frames.Mesh view) state ∷ []
parts_at state commands.Text = framed frames.Text state ∷ []
parts_at state commands.Cost = cost_part state.cost ∷ []

-- the session after an undo: the first of the edits that take one back is applied, and is not among them
-- any more; where there is none it is as it was
abbrev pub after_undo : State → List Edit → State
after_undo state [] = state
after_undo state (last ∷ others) = with_model state (record {
  clauses = given_or state.clauses (edited state.clauses last);
  undo = others;
})

-- the session after a command: after an edit that is accepted, after the last one is taken back, after
-- a frame that is drawn, and else as it was
abbrev pub state_after : State → Command → State
state_after state (commands.Edit line edit) =
    on_result (edited state.clauses edit) (λ new. after_edit state edit new) (λ fault. state)
state_after state (commands.Stray line) = state
state_after state (commands.Undo line) = after_undo state state.undo
state_after state (commands.Render view) = after_frame state (frames.Render view)
state_after state (commands.Height view) = after_frame state (frames.Height view)
state_after state (commands.Mesh view) = after_frame state (frames.Mesh view)
state_after state commands.Text = state
state_after state commands.Cost = state

-- the session after commands
unfoldable pub standing : State → List Command → State
standing state commands = fold state_after state commands

-- the parts that commands write, each of the session where it comes
unfoldable pub replayed : State → List Command → List Part
replayed state [] = []
replayed state (command ∷ commands) =
    parts_at state command ++ replayed (state_after state command) commands

-- What always holds of what a session takes, and of what it was opened with.
use Rattle.std.specs.Prelude.{◌≡◌, List, [], Ok}
use Rattle.fixed_ops.specs.Counts.{IsAtMost}
use Rattle.model_frames.specs.Frames.{frame_part}
use Rattle.model_frames.specs.Work.{Work, frame_work, mesh_work}
use Rattle.model_frames.specs.declared.frame.Frame.TheVariants.{Render, Height, Mesh, Text}
use Rattle.model_frames.specs.declared.frame.Frame.{Frame}
use Rattle.solid_model.specs.declared.clause.Clause.{Clause}
use Rattle.solid_model.specs.declared.edit.Edit.{Edit}
use Rattle.solid_model.specs.Clauses.{IsModel}
use Rattle.solid_model.specs.Edited.{IsUndone}
use Rattle.solid_model.specs.Edits.{edited, IsEdit}
use Rattle.view_places.specs.Window.{Window}
use Rattle.edit_session.specs.Sessions.{State, after_edit, after_frame, after_refusal, model_of, opening_of, session_part, started}

-- After an image that was refused, whatever its view, the next image takes what a fresh one does, and the
-- next mesh what it would have taken without it. After a mesh that was refused it is the other way round.
-- The clauses and the cost stand after both. A height map or a text that was refused leaves all.
pub record RefusalsBeginAnew : Type 0 where
  pub image : (state : State) (refused view : Window)
      → (session_part (after_refusal state (Render refused)) (Render view)).work
      ≡ frame_work view state.clauses
  pub mesh : (state : State) (refused view : Window)
      → (session_part (after_refusal state (Mesh refused)) (Mesh view)).work
      ≡ mesh_work view state.clauses
  pub other_mesh : (state : State) (refused view : Window)
      → session_part (after_refusal state (Render refused)) (Mesh view) ≡ session_part state (Mesh view)
  pub other_image : (state : State) (refused view : Window)
      → session_part (after_refusal state (Mesh refused)) (Render view)
      ≡ session_part state (Render view)
  pub clauses : (state : State) (refused : Window)
      → ((after_refusal state (Render refused)).clauses ≡ state.clauses)
      × ((after_refusal state (Mesh refused)).clauses ≡ state.clauses)
  pub cost : (state : State) (refused : Window)
      → ((after_refusal state (Render refused)).cost ≡ state.cost)
      × ((after_refusal state (Mesh refused)).cost ≡ state.cost)
  pub others : (state : State) (refused : Window)
      → (after_refusal state (Height refused) ≡ state) × (after_refusal state Text ≡ state)

-- What a session was opened with stands after each frame, refused or not, after each edit that its model
-- accepts, and after each that is taken back. A session that begins is opened with its clauses, and once no
-- edit is left to be taken back, the clauses are those that it was opened with.
pub record OpeningStands : Type 0 where
  pub begins : (clauses : List Clause) → opening_of (started clauses) ≡ clauses
  pub ends : (state : State) → state.undo ≡ [] → state.clauses ≡ opening_of state
  pub frame : (state : State) (frame : Frame) → opening_of (after_frame state frame) ≡ opening_of state
  pub refusal : (state : State) (frame : Frame) → opening_of (after_refusal state frame) ≡ opening_of state
  pub edit : (state : State) (edit : Edit) (new : List Clause) → IsModel state.clauses → IsEdit edit
      → edited state.clauses edit ≡ Ok new → opening_of (after_edit state edit new) ≡ opening_of state
  pub undo : (before after : State) → IsUndone (model_of before) (model_of after)
      → opening_of after ≡ opening_of before

-- what is counted of some work is no more than of other work, and what plain evaluation counts is the same
pub record TakesNoMore (work alone : Work) : Type 0 where
  pub least : IsAtMost work.least alone.least
  pub most : IsAtMost work.most alone.most
  pub bound : IsAtMost work.bound alone.bound
  pub plain : work.plain ≡ alone.plain

-- whatever was drawn before it, a frame of a session takes no more than alone
abbrev pub FramesTakeNoMore : Type 0
FramesTakeNoMore = (state : State) (frame : Frame)
    → TakesNoMore (session_part state frame).work (frame_part frame state.clauses).work

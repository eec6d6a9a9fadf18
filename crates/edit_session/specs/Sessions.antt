-- What a session is seen as, what its frames are, and what it is seen as after them.
use Rattle.std.specs.Prelude.{ℕ, List, [], ◌∷◌, Option, Some, None}
use Rattle.live_clauses.specs.Live.{root_of}
use Rattle.model_frames.specs.Frames.{Part, frame_part}
use Rattle.model_frames.specs.Images.{list_before}
use Rattle.model_frames.specs.Work.{image_work, mesh_work_after}
use Rattle.model_frames.specs.declared.frame.Frame.{Frame}
use Rattle.model_frames.specs.declared.frame.Frame.TheVariants.{Render, Height, Shade, Mesh, Contour, Text}
use Rattle.oct_descent.specs.Trees.{Gridding}
use Rattle.quad_descent.specs.Raster.{Drawing, frame_points, frame_spans}
use Rattle.solid_model.specs.declared.clause.Clause.{Clause}
use Rattle.solid_model.specs.declared.edit.Edit.{Edit}
use Rattle.solid_model.specs.Edited.{Edited, opening}
use Rattle.solid_model.specs.Inverses.{inverse_of}
use Rattle.view_places.specs.Window.{Window}

-- how many evaluations and traced steps an image took
pub record Cost : Type 0 where
  pub points : ℕ
  pub spans : ℕ

-- a session: the clauses of the model then standing; the edits that take back those that were accepted,
-- the latest first; the view and the root list of its last image, and of its last mesh, where one stands;
-- and the cost of its last image, nothing before the first
pub record State : Type 0 where
  pub clauses : List Clause
  pub undo : List Edit
  pub image : Option Drawing
  pub mesh : Option Gridding
  pub cost : Cost

-- a session that begins
abbrev pub started : List Clause → State
started clauses = record {
  clauses = clauses;
  undo = [];
  image = None;
  mesh = None;
  cost = record { points = 0; spans = 0 };
}

-- the model of a session, as one that is edited
abbrev pub model_of : State → Edited
model_of state = record { clauses = state.clauses; undo = state.undo }

-- what a session was opened with: the clauses that its edits which take one back lead to
abbrev pub opening_of : State → List Clause
opening_of state = opening (model_of state)

-- a session with another model: its image, its mesh and its cost stand
abbrev pub with_model : State → Edited → State
with_model state model = record state { clauses = model.clauses; undo = model.undo }

-- the session after an edit that gives these clauses: the edit that takes it back comes before the others
abbrev pub after_edit : State → Edit → List Clause → State
after_edit state edit clauses = with_model state (record {
  clauses = clauses;
  undo = inverse_of state.clauses edit ∷ state.undo;
})

-- A frame of a session: its bytes hang on the clauses alone. An image takes the work of what changed
-- since the last one, and so does a mesh.
abbrev pub session_part : State → Frame → Part
session_part state (Render view) = record {
  bytes = (frame_part (Render view) state.clauses).bytes;
  work = image_work state.image view state.clauses;
}
session_part state (Height view) = frame_part (Height view) state.clauses
session_part state (Shade view) = frame_part (Shade view) state.clauses
session_part state (Mesh view) = record {
  bytes = (frame_part (Mesh view) state.clauses).bytes;
  work = mesh_work_after state.mesh view state.clauses;
}
session_part state (Contour view) = frame_part (Contour view) state.clauses
session_part state Text = frame_part Text state.clauses

-- the cost of an image of this view that comes next
abbrev pub image_cost : State → Window → Cost
image_cost state view =
    let list = list_before state.image view in record {
      points = frame_points view list (root_of state.clauses);
      spans = frame_spans view list (root_of state.clauses);
    }

-- the session after a frame: an image stands as the last one, with its cost, and a mesh as the last one
abbrev pub after_frame : State → Frame → State
after_frame state (Render view) = record state {
  image = Some (record { view = view; list = root_of state.clauses });
  cost = image_cost state view;
}
after_frame state (Height view) = state
after_frame state (Shade view) = state
after_frame state (Mesh view) = record state {
  mesh = Some (record { view = view; list = root_of state.clauses });
}
after_frame state (Contour view) = state
after_frame state Text = state

-- the session after a frame that was refused: no image stands where it was one, and no mesh where it
-- was a mesh
abbrev pub after_refusal : State → Frame → State
after_refusal state (Render view) = record state { image = None }
after_refusal state (Height view) = state
after_refusal state (Shade view) = state
after_refusal state (Mesh view) = record state { mesh = None }
after_refusal state (Contour view) = state
after_refusal state Text = state

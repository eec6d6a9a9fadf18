-- Sessions, worked out by hand.
use Rattle.std.proofs.Common.{◌≡◌, ℕ, pos, negsuc, List, [], ◌∷◌, Some, None, Result, Ok, Err, refl}
use Rattle.std.specs.Prelude.{codes}
use Rattle.box_chains.specs.Chains.{chain_within}
use Rattle.box_chains.specs.Redrawn.{points_after, spans_after}
use Rattle.clause_reader.specs.Reading.{text_read}
use Rattle.clause_reader.specs.declared.text_fault.TextFault.{TextFault}
use Rattle.fixed_ops.specs.declared.operation.Op.TheVariants.{X, Y, Neg}
use Rattle.live_clauses.specs.Live.{root_of}
use Rattle.model_frames.specs.Work.{exactly}
use Rattle.model_frames.specs.declared.frame.Frame.TheVariants.{Render, Height, Mesh, Text}
use Rattle.solid_model.specs.declared.clause.Clause.{Clause}
use Rattle.solid_model.specs.declared.edit.Edit.TheVariants as edits
use Rattle.solid_model.specs.Edited.{after_edits}
use Rattle.view_places.specs.Window.{Window}
use Rattle.edit_session.specs.Sessions.{State, after_edit, after_frame, after_refusal, image_cost, opening_of, session_part, started, with_model}

-- the clauses of a text that is read
abbrev solid : List ℕ → List Clause
solid text = by (text_read text)
  where
    by : Result (List Clause) TextFault → List Clause
    by (Ok clauses) = clauses
    by (Err fault) = []

-- with another model the image, the mesh and the cost stand
others_stand : (state : State) → with_model state (record { clauses = []; undo = [] })
    ≡ record { clauses = []; undo = []; image = state.image; mesh = state.mesh; cost = state.cost }
others_stand state = refl

-- nine columns and a row from -1 to 1, one cell along each axis
abbrev row : Window
row = record {
  x0 = negsuc 4294967295;
  x1 = pos 4294967296;
  y0 = negsuc 4294967295;
  y1 = pos 4294967296;
  z0 = negsuc 4294967295;
  z1 = pos 4294967296;
  z = pos 0;
  w = 9;
  h = 1;
  d = 1;
  nx = 1;
  ny = 1;
  nz = 1;
}

abbrev left : List Clause
left = solid (codes "x var-x\n")

abbrev below : List Clause
below = solid (codes "x var-y\n")

-- a session that begins has no image, and an image of nothing cost nothing
no_cost_at_first : (started left).cost ≡ record { points = 0; spans = 0 }
no_cost_at_first = refl

-- the left one of two boxes has the column where x is 0, and its five samples are evaluated
abbrev drawn : State
drawn = after_frame (started left) (Render row)

cost_of_an_image : drawn.cost ≡ record { points = 5; spans = 3 }
unfolding points_after spans_after chain_within
cost_of_an_image = refl

image_stands : drawn.image ≡ Some (record { view = row; list = root_of left })
image_stands = refl

image_is_no_mesh : drawn.mesh ≡ None
image_is_no_mesh = refl

-- an image of what stands takes nothing, and a mesh, a height map or a text between takes nothing of that away
nothing_changed : image_cost (after_frame (after_frame (after_frame drawn (Mesh row)) (Height row)) Text) row
    ≡ record { points = 0; spans = 0 }
unfolding points_after spans_after chain_within
nothing_changed = refl

work_of_nothing_changed : (session_part drawn (Render row)).work ≡ exactly 0 0 9
unfolding points_after spans_after chain_within
work_of_nothing_changed = refl

mesh_stands : (after_frame drawn (Mesh row)).mesh ≡ Some (record { view = row; list = root_of left })
mesh_stands = refl

-- after an image that was refused the next one takes what a fresh one does, and the mesh stands
image_was_refused : (session_part (after_refusal drawn (Render row)) (Render row)).work ≡ exactly 5 3 9
unfolding points_after spans_after chain_within
image_was_refused = refl

cost_after_a_refusal : (after_refusal drawn (Render row)).cost ≡ record { points = 5; spans = 3 }
unfolding points_after spans_after chain_within
cost_after_a_refusal = refl

mesh_after_a_refused_image : (after_refusal (after_frame drawn (Mesh row)) (Render row)).mesh
    ≡ Some (record { view = row; list = root_of left })
mesh_after_a_refused_image = refl

-- and after a mesh that was refused the image does
image_after_a_refused_mesh : (after_refusal drawn (Mesh row)).image ≡ Some (record { view = row; list = root_of left })
image_after_a_refused_mesh = refl

no_mesh_after_its_refusal : (after_refusal (after_frame drawn (Mesh row)) (Mesh row)).mesh ≡ None
no_mesh_after_its_refusal = refl

refused_map_leaves_all : after_refusal drawn (Height row) ≡ drawn
refused_map_leaves_all = refl

refused_text_leaves_all : after_refusal drawn Text ≡ drawn
refused_text_leaves_all = refl

-- an edit leaves the image, the mesh and the cost, and what takes it back has the form from before it
abbrev edited_once : State
edited_once = after_edit drawn (edits.Set (codes "x") (record { op = Y; args = []; value = pos 0 })) below

form_from_before : edited_once.undo ≡ edits.Set (codes "x") (record { op = X; args = []; value = pos 0 }) ∷ []
form_from_before = refl

cost_after_an_edit : edited_once.cost ≡ record { points = 5; spans = 3 }
unfolding points_after spans_after chain_within
cost_after_an_edit = refl

image_after_an_edit : edited_once.image ≡ Some (record { view = row; list = root_of left })
image_after_an_edit = refl

-- the latest edit is the first to be taken back
abbrev edited_twice : State
edited_twice = after_edit edited_once (edits.Add (codes "n") (record { op = Neg; args = codes "x" ∷ []; value = pos 0 }))
    (solid (codes "x var-y\nn neg x\n"))

latest_comes_first : edited_twice.undo
    ≡ edits.Cut (codes "n") ∷ edits.Set (codes "x") (record { op = X; args = []; value = pos 0 }) ∷ []
latest_comes_first = refl

opened_with : opening_of edited_twice ≡ left
unfolding after_edits
opened_with = refl

-- An image and a mesh take the work of fewer boxes, and other frames take what they take alone.
use Rattle.std.proofs.Common.{◌*◌, ℕ, ◌≤◌, List, length, refl, arith}
use Rattle.std.specs.Prelude.{None, Option, Some}
use Rattle.box_chains.specs.Tallied.{work_of}
use Rattle.fixed_ops.specs.Counts.{IsAtMost}
use Rattle.live_clauses.specs.Live.{root_of}
use Rattle.live_clauses.specs.declared.step.Step.{Step}
use Rattle.model_frames.specs.Frames.{frame_part}
use Rattle.model_frames.specs.Images.{list_before}
use Rattle.model_frames.specs.Meshes.{grid_before, plain_grid}
use Rattle.model_frames.specs.Work.{Work, grid_work}
use Rattle.model_frames.specs.declared.frame.Frame.{Frame}
use Rattle.model_frames.specs.declared.frame.Frame.TheVariants.{Render, Height, Shade, Mesh, Contour, Text}
use Rattle.oct_descent.specs.AfterLaws.{BoxesAfterAddUp, MeshesAfterAddUp}
use Rattle.oct_descent.specs.After.{mesh_before}
use Rattle.oct_descent.specs.Ways.{grid_root, gridded}
use Rattle.quad_descent.specs.Laws.{FrameWorkIsBounded}
use Rattle.view_places.specs.Window.{Window}
use Rattle.edit_session.specs.Laws.{TakesNoMore}
use Rattle.edit_session.specs.Sessions.{State, session_part}
use Rattle.fixed_ops.proofs.CountLaws.{IsAtMost-refl}
use Rattle.model_frames.proofs.DescentLaws.{boxes_after_add_up, frame_work_is_bounded, meshes_after_add_up}
use Rattle.edit_session.proofs.laws.frames_take_no_more.Goals as goal

same : (work : Work) → TakesNoMore work work
same work = record { least = IsAtMost-refl work.least; most = IsAtMost-refl work.most; bound = IsAtMost-refl work.bound; plain = refl }

fewer : (p s c q t d : ℕ) → p ≤ q → s ≤ t → c ≤ d → IsAtMost (work_of p s c) (work_of q t d)
fewer p s c q t d points spans corners = record { points = points; spans = spans; corners = corners }

four : (s t : ℕ) → s ≤ t → 4 * s ≤ 4 * t
four s t less = omega (arith, less)

image : FrameWorkIsBounded → (state : State) (view : Window)
    → TakesNoMore (session_part state (Render view)).work (frame_part (Render view) state.clauses).work
image laws state view =
    let list = root_of state.clauses in
    let before = list_before state.image view in
    let points = laws.most_points view before list in
    let spans = laws.most_spans view before list in
    record {
      least = fewer _ _ _ _ _ _ points spans (omega arith);
      most = fewer _ _ _ _ _ _ points spans (four _ _ spans);
      bound = fewer _ _ _ _ _ _ points spans (four _ _ spans);
      plain = refl;
    }

mesh : BoxesAfterAddUp → MeshesAfterAddUp → (before : Option (List Step)) (view : Window) (list : List Step) (plain : ℕ)
    → TakesNoMore (grid_work before view list plain) (grid_work None view list plain)
mesh boxes meshes None view list plain = same (grid_work None view list plain)
mesh boxes meshes (Some before) view list plain =
    let points = meshes.most_points view (Some before) list in
    let spans = meshes.most_spans view (Some before) list in
    record {
      least = fewer _ _ _ _ _ _ (meshes.most_least view (Some before) list) (boxes.most_long (gridded view) (mesh_before view (Some before)) (grid_root view list)) (omega arith);
      most = fewer _ _ _ _ _ _ points spans (four _ _ spans);
      bound = fewer _ _ _ _ _ _ points spans (four _ _ spans);
      plain = refl;
    }

frames : FrameWorkIsBounded → BoxesAfterAddUp → MeshesAfterAddUp → (state : State) (frame : Frame)
    → TakesNoMore (session_part state frame).work (frame_part frame state.clauses).work
frames laws boxes meshes state (Render view) = image laws state view
frames laws boxes meshes state (Height view) = same (frame_part (Height view) state.clauses).work
frames laws boxes meshes state (Shade view) = same (frame_part (Shade view) state.clauses).work
frames laws boxes meshes state (Mesh view) =
    mesh boxes meshes (grid_before state.mesh view) view (root_of state.clauses) (plain_grid view (length state.clauses))
frames laws boxes meshes state (Contour view) = same (frame_part (Contour view) state.clauses).work
frames laws boxes meshes state Text = same (frame_part Text state.clauses).work

pub returns : goal.returns
returns c = frames frame_work_is_bounded boxes_after_add_up meshes_after_add_up

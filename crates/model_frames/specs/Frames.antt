-- What can be drawn of a solid: the bytes of each kind of frame, and the work that it takes.
use Rattle.std.specs.Prelude.{ℕ, List, codes, ⊤}
use Rattle.clause_reader.specs.ModelText.{model_text}
use Rattle.solid_model.specs.declared.clause.Clause.{Clause}
use Rattle.view_places.specs.Window.{FitsContour, FitsHeight, FitsMesh}
use Rattle.model_frames.specs.Contours.{contour_text, contour_work}
use Rattle.model_frames.specs.Heights.{heights_of}
use Rattle.model_frames.specs.Images.{image_of}
use Rattle.model_frames.specs.Meshes.{mesh_text}
use Rattle.model_frames.specs.Shades.{shaded_of}
use Rattle.model_frames.specs.Work.{Work, frame_work, height_work, mesh_work, no_work, shade_work}
use Rattle.model_frames.specs.declared.frame.Frame.{Frame}
use Rattle.model_frames.specs.declared.frame.Frame.TheVariants.{Render, Height, Shade, Mesh, Contour, Text}

-- bytes, with the work that they take
pub record Part : Type 0 where
  pub bytes : List ℕ
  pub work : Work

-- a frame of a solid
abbrev pub frame_part : Frame → List Clause → Part
frame_part (Render view) clauses =
    record { bytes = image_of view clauses; work = frame_work view clauses }
frame_part (Height view) clauses =
    record { bytes = heights_of view clauses; work = height_work view clauses }
frame_part (Shade view) clauses =
    record { bytes = shaded_of view clauses; work = shade_work view clauses }
frame_part (Mesh view) clauses =
    record { bytes = mesh_text view clauses; work = mesh_work view clauses }
frame_part (Contour view) clauses =
    record { bytes = contour_text view clauses; work = contour_work view clauses }
frame_part Text clauses = record { bytes = model_text clauses; work = no_work }

-- the word for its kind
abbrev pub frame_name : Frame → List ℕ
frame_name (Render view) = codes "render"
frame_name (Height view) = codes "height"
frame_name (Shade view) = codes "shade"
frame_name (Mesh view) = codes "mesh"
frame_name (Contour view) = codes "contour"
frame_name Text = codes "text"

-- its view is one that such a frame has
abbrev pub CanDraw : Frame → Type 0
CanDraw (Render view) = ⊤
CanDraw (Height view) = FitsHeight view
CanDraw (Shade view) = FitsHeight view
CanDraw (Mesh view) = FitsMesh view
CanDraw (Contour view) = FitsContour view
CanDraw Text = ⊤

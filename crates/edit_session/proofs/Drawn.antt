-- What a session is seen as after an image, and after a mesh.
use Rattle.std.proofs.Common.{◌≡◌, ℕ, List, ap, subst, ◌∙◌}
use Rattle.std.specs.Prelude.{Option, Some}
use Rattle.live_clauses.specs.Live.{root_of}
use Rattle.model_frames.specs.Images.{list_before}
use Rattle.model_frames.specs.declared.frame.Frame.TheVariants.{Mesh, Render}
use Rattle.oct_descent.specs.Trees.{Gridding}
use Rattle.quad_descent.specs.Raster.{Drawing, frame_points, frame_spans}
use Rattle.solid_model.specs.declared.clause.Clause.{Clause}
use Rattle.solid_model.specs.Edited.{Edited}
use Rattle.view_places.specs.Window.{Window}
use Rattle.edit_session.specs.Sessions.{Cost, State, after_frame}
use Rattle.model_frames.proofs.WorkLaws.{done-joined, plain-joined, within-joined}

-- what a tally of its own counts is counted by one that takes it in
pub ruleset counted_apart = (done-joined, within-joined, plain-joined)

-- the image stands, with the numbers that its own tally tells
pub session-drawn : (s : State) (view : Window) (given : List Clause) (model : Edited) (image before : Option Drawing) (mesh : Option Gridding) (cost : Cost) (tree : Drawing) (points spans : ℕ)
    → record { clauses = model.clauses; undo = model.undo; image = image; mesh = mesh; cost = cost } ≡ s → given ≡ model.clauses → before ≡ image
    → tree ≡ record { view = view; list = root_of given }
    → points ≡ frame_points view (list_before before view) (root_of given) → spans ≡ frame_spans view (list_before before view) (root_of given)
    → record { clauses = model.clauses; undo = model.undo; image = Some tree; mesh = mesh; cost = record { points = points; spans = spans } } ≡ after_frame s (Render view)
session-drawn s view given model image before mesh cost tree points spans is same taken drawn told_points told_spans =
    subst (λ (t : State). record { clauses = model.clauses; undo = model.undo; image = Some tree; mesh = mesh; cost = record { points = points; spans = spans } } ≡ after_frame t (Render view)) is
    (λ k. record {
      clauses = model.clauses;
      undo = model.undo;
      image = Some ((drawn ∙ ap (λ (cs : List Clause). record { view = view; list = root_of cs }) same) k);
      mesh = mesh;
      cost = record {
        points = (told_points ∙ ap (λ b. frame_points view (list_before b view) (root_of given)) taken ∙ ap (λ cs. frame_points view (list_before image view) (root_of cs)) same) k;
        spans = (told_spans ∙ ap (λ b. frame_spans view (list_before b view) (root_of given)) taken ∙ ap (λ cs. frame_spans view (list_before image view) (root_of cs)) same) k;
      };
    })

-- and so does a mesh
pub session-meshed : (s : State) (view : Window) (given : List Clause) (model : Edited) (image : Option Drawing) (mesh : Option Gridding) (cost : Cost) (tree : Gridding)
    → record { clauses = model.clauses; undo = model.undo; image = image; mesh = mesh; cost = cost } ≡ s → given ≡ model.clauses → tree ≡ record { view = view; list = root_of given }
    → record { clauses = model.clauses; undo = model.undo; image = image; mesh = Some tree; cost = cost } ≡ after_frame s (Mesh view)
session-meshed s view given model image mesh cost tree is same looked =
    subst (λ (t : State). record { clauses = model.clauses; undo = model.undo; image = image; mesh = Some tree; cost = cost } ≡ after_frame t (Mesh view)) is
    (λ k. record {
      clauses = model.clauses;
      undo = model.undo;
      image = image;
      mesh = Some ((looked ∙ ap (λ (cs : List Clause). record { view = view; list = root_of cs }) same) k);
      cost = cost;
    })

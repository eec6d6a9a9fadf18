-- What leads back does not hang on images and meshes, and what an edit puts before it leads back to where it
-- led.
use Rattle.std.proofs.Common.{◌≡◌, List, [], ◌∷◌, Ok, ap, refl, sym, ◌∙◌}
use Rattle.model_frames.specs.declared.frame.Frame.{Frame}
use Rattle.model_frames.specs.declared.frame.Frame.TheVariants.{Render, Height, Shade, Mesh, Contour, Text}
use Rattle.solid_model.specs.declared.clause.Clause.{Clause}
use Rattle.solid_model.specs.declared.edit.Edit.{Edit}
use Rattle.solid_model.specs.Edited.{after_edits, given_or, IsUndone}
use Rattle.solid_model.specs.Edits.{edited}
use Rattle.solid_model.specs.Inverses.{inverse_of}
use Rattle.solid_model.proofs.InverseLemmas.{taken-back}
use Rattle.edit_session.specs.Sessions.{State, after_frame, after_refusal, model_of, opening_of}
use Rattle.edit_session.proofs.laws.opening_stands.Goals as goal

framed : (state : State) (frame : Frame) → opening_of (after_frame state frame) ≡ opening_of state
framed state (Render view) = refl
framed state (Height view) = refl
framed state (Shade view) = refl
framed state (Mesh view) = refl
framed state (Contour view) = refl
framed state Text = refl

refused : (state : State) (frame : Frame) → opening_of (after_refusal state frame) ≡ opening_of state
refused state (Render view) = refl
refused state (Height view) = refl
refused state (Shade view) = refl
refused state (Mesh view) = refl
refused state (Contour view) = refl
refused state Text = refl

-- an edit that is accepted, before others, leads to where these lead from what it gives
led : (clauses new : List Clause) (edit : Edit) (others : List Edit) → edited clauses edit ≡ Ok new
    → after_edits clauses (edit ∷ others) ≡ after_edits new others
unfolding after_edits
led clauses new edit others made = ap (λ g. after_edits (given_or clauses g) others) made

undone : (before after : State) → IsUndone (model_of before) (model_of after) → opening_of after ≡ opening_of before
undone before after is =
    sym (ap (after_edits before.clauses) is.first ∙ led before.clauses after.clauses is.edit after.undo is.accepted)

none-left : (clauses : List Clause) (undo : List Edit) → undo ≡ [] → clauses ≡ after_edits clauses undo
unfolding after_edits
none-left clauses undo none = sym (ap (after_edits clauses) none)

begun : (clauses : List Clause) → after_edits clauses [] ≡ clauses
unfolding after_edits
begun clauses = refl

pub returns : goal.returns
returns c = record {
  begins = begun;
  ends = λ state none. none-left state.clauses state.undo none;
  frame = framed;
  refusal = refused;
  edit = λ state edit new model is made.
      led new state.clauses (inverse_of state.clauses edit) state.undo (taken-back state.clauses edit new model is made).back;
  undo = undone;
}

-- Undos lead back to the clauses before the edits that were accepted, and frames show what stands.
use Rattle.std.proofs.Common.{◌≡◌, ℕ, ◌+◌, List, [], ◌∷◌, ◌++◌, length, Result, Ok, Err, refl, sym, ap, subst, ◌∙◌, append_assoc, arith}
use Rattle.std.specs.Prelude.{All}
use Rattle.std.proofs.lemmas.List.{length-append}
use Rattle.std.proofs.lemmas.List.Sums.{fold-append}
use Rattle.edit_script.specs.Commands.{IsCommand}
use Rattle.edit_script.specs.declared.command.Command.{Command}
use Rattle.edit_script.specs.declared.command.Command.TheVariants as commands
use Rattle.edit_session.specs.Sessions.{State, after_edit, model_of}
use Rattle.model_frames.specs.declared.frame.Frame.{Frame}
use Rattle.model_frames.specs.declared.frame.Frame.TheVariants as frames
use Rattle.solid_model.specs.Clauses.{IsModel}
use Rattle.solid_model.specs.Edited.{Edited, after_edits, given_or}
use Rattle.solid_model.specs.Edits.{edited}
use Rattle.solid_model.specs.Inverses.{inverse_of}
use Rattle.solid_model.specs.declared.clause.Clause.{Clause}
use Rattle.solid_model.specs.declared.edit.Edit.{Edit}
use Rattle.solid_model.specs.declared.edit.EditFault.{EditFault}
use Rattle.modeller_cmd.specs.Replays.{after_undo, framed, replayed, standing, state_after}
use Rattle.modeller_cmd.specs.Undoing.{edits_among, edits_at, undos_among, FramesShowWhatStands, HasFrame, UndosLeadBack}
use Rattle.modeller_cmd.proofs.ReplayLaws.{replayed-between}
use Rattle.modeller_cmd.proofs.WorkSums.{All-between}
use Rattle.solid_model.proofs.SurgeryModels.{edits-models}
use Rattle.solid_model.proofs.InverseLemmas.{taken-back}
use Rattle.fixed_ops.proofs.Lists.{all_right}

-- edits after others are made of what those give
edits-append : (clauses : List Clause) (xs ys : List Edit) → after_edits clauses (xs ++ ys) ≡ after_edits (after_edits clauses xs) ys
unfolding after_edits
edits-append clauses [] ys = refl
edits-append clauses (x ∷ xs) ys = edits-append (given_or clauses (edited clauses x)) xs ys

-- commands after others are played on what those leave
pub standing-append : (state : State) (xs ys : List Command) → standing state (xs ++ ys) ≡ standing (standing state xs) ys
unfolding standing
standing-append state xs ys = fold-append state_after state xs ys

pub accepted-next : (state : State) (line : ℕ) (edit : Edit) (new : List Clause) → edited state.clauses edit ≡ Ok new
    → state_after state (commands.Edit line edit) ≡ after_edit state edit new
accepted-next state line edit new is = rw is refl

accepted-count : (state : State) (line : ℕ) (edit : Edit) (new : List Clause) → edited state.clauses edit ≡ Ok new → edits_at state (commands.Edit line edit) ≡ 1
accepted-count state line edit new is = rw is refl

pub refused-next : (state : State) (line : ℕ) (edit : Edit) (fault : EditFault) → edited state.clauses edit ≡ Err fault → state_after state (commands.Edit line edit) ≡ state
refused-next state line edit fault is = rw is refl

refused-count : (state : State) (line : ℕ) (edit : Edit) (fault : EditFault) → edited state.clauses edit ≡ Err fault → edits_at state (commands.Edit line edit) ≡ 0
refused-count state line edit fault is = rw is refl

-- clauses, and what takes edits back
abbrev model : List Clause → List Edit → Edited
model clauses undo = record { clauses = clauses; undo = undo }

-- as many undos as some edits, where no edit is accepted between, make these edits
abbrev IsBack : State → List Command → List Edit → List Edit → Type 0
IsBack state back xs rest = model_of (standing state back) ≡ model (after_edits state.clauses xs) rest

undone-all : (state : State) (back : List Command) (xs rest : List Edit) → edits_among state back ≡ 0 → state.undo ≡ xs ++ rest → undos_among back ≡ length xs
    → IsBack state back xs rest
unfolding standing after_edits
undone-all state [] [] rest none is many = ap (model state.clauses) is
undone-all state [] (x ∷ xs) rest none is many = absurd (omega (arith, many))
undone-all state (commands.Edit line edit ∷ back) xs rest none is many = by (edited state.clauses edit) refl (λ left. undone-all state back xs rest left is many)
  where
    by : (r : Result (List Clause) EditFault) → edited state.clauses edit ≡ r → (edits_among state back ≡ 0 → IsBack state back xs rest)
        → IsBack state (commands.Edit line edit ∷ back) xs rest
    by (Ok new) at others =
        let one = accepted-count state line edit new at in
        absurd (omega (arith, none, one))
    by (Err fault) at others =
        let same = refused-next state line edit fault at in
        let left : edits_among (state_after state (commands.Edit line edit)) back ≡ 0 = omega (arith, none) in
        subst (λ (next : State). model_of (standing next back) ≡ model (after_edits state.clauses xs) rest) (sym same)
        (others (ap (λ next. edits_among next back) (sym same) ∙ left))
undone-all state (commands.Stray line ∷ back) xs rest none is many = undone-all state back xs rest (omega (arith, none)) is many
undone-all state (commands.Undo line ∷ back) [] rest none is many = absurd (omega (arith, many))
undone-all state (commands.Undo line ∷ back) (x ∷ xs) rest none is many =
    let left : edits_among (state_after state (commands.Undo line)) back ≡ 0 = omega (arith, none) in
    let next : state_after state (commands.Undo line) ≡ after_undo state (x ∷ (xs ++ rest)) = ap (after_undo state) is in
    subst (λ (after : State). model_of (standing after back) ≡ model (after_edits state.clauses (x ∷ xs)) rest) (sym next)
    (undone-all (after_undo state (x ∷ (xs ++ rest))) back xs rest (ap (λ after. edits_among after back) (sym next) ∙ left) refl (omega (arith, many)))
undone-all state (commands.Render view ∷ back) xs rest none is many = undone-all (state_after state (commands.Render view)) back xs rest (omega (arith, none)) is many
undone-all state (commands.Height view ∷ back) xs rest none is many = undone-all state back xs rest (omega (arith, none)) is many
undone-all state (commands.Mesh view ∷ back) xs rest none is many = undone-all (state_after state (commands.Mesh view)) back xs rest (omega (arith, none)) is many
undone-all state (commands.Text ∷ back) xs rest none is many = undone-all state back xs rest (omega (arith, none)) is many
undone-all state (commands.Cost ∷ back) xs rest none is many = undone-all state back xs rest (omega (arith, none)) is many

-- so many edits before the others lead back from one session to the clauses of another
record LeadBack (state now : State) (count : ℕ) : Type 0 where
  edits : List Edit
  before : now.undo ≡ edits ++ state.undo
  as_many : length edits ≡ count
  back : after_edits now.clauses edits ≡ state.clauses

-- an edit that is accepted leads back, behind those that lead back from what comes after it
one-more : (state now : State) (edit : Edit) (new : List Clause) (count : ℕ) → edited new (inverse_of state.clauses edit) ≡ Ok state.clauses
    → LeadBack (after_edit state edit new) now count → LeadBack state now (1 + count)
unfolding after_edits
one-more state now edit new count back leads =
    let last = inverse_of state.clauses edit in record {
      edits = leads.edits ++ last ∷ [];
      before = leads.before ∙ sym (append_assoc leads.edits (last ∷ []) state.undo);
      as_many = let long = length-append leads.edits (last ∷ []) in omega (arith, long, leads.as_many);
      back = edits-append now.clauses leads.edits (last ∷ []) ∙ ap (λ (clauses : List Clause). given_or clauses (edited clauses last)) leads.back ∙ ap (given_or new) back;
    }

-- and what is no edit adds none
not-more : {state now : State} {count : ℕ} → LeadBack state now count → LeadBack state now (0 + count)
not-more leads = record { edits = leads.edits; before = leads.before; as_many = omega (arith, leads.as_many); back = leads.back }

pub first : (x : Command) (xs : List Command) → All IsCommand (x ∷ xs) → IsCommand x
first x xs are = All-between IsCommand [] x xs are

pub others : (x : Command) (xs : List Command) → All IsCommand (x ∷ xs) → All IsCommand xs
others x xs are = all_right IsCommand (x ∷ []) xs are

made-edits : (state : State) (there : List Command) → IsModel state.clauses → All IsCommand there → undos_among there ≡ 0
    → LeadBack state (standing state there) (edits_among state there)
unfolding standing after_edits
made-edits state [] is are none = record { edits = []; before = refl; as_many = refl; back = refl }
made-edits state (commands.Edit line edit ∷ there) is are none =
    by (edited state.clauses edit) refl (λ new model_is. made-edits (after_edit state edit new) there model_is (others _ there are) none) (made-edits state there is (others _ there are) none)
  where
    by : (r : Result (List Clause) EditFault) → edited state.clauses edit ≡ r
        → ((new : List Clause) → IsModel new → LeadBack (after_edit state edit new) (standing (after_edit state edit new) there) (edits_among (after_edit state edit new) there))
        → LeadBack state (standing state there) (edits_among state there)
        → LeadBack state (standing (state_after state (commands.Edit line edit)) there)
        (edits_at state (commands.Edit line edit) + edits_among (state_after state (commands.Edit line edit)) there)
    by (Ok new) at accepted refused =
        let next = accepted-next state line edit new at in
        let one = accepted-count state line edit new at in
        let leads = accepted new (edits-models state.clauses edit new is.clauses_are (first _ there are) at) in
        subst (λ (after : State). LeadBack state (standing after there) (edits_at state (commands.Edit line edit) + edits_among after there)) (sym next)
        (subst (λ n. LeadBack state (standing (after_edit state edit new) there) (n + edits_among (after_edit state edit new) there)) (sym one)
        (one-more state (standing (after_edit state edit new) there) edit new (edits_among (after_edit state edit new) there) (taken-back state.clauses edit new is (first _ there are) at).back leads))
    by (Err fault) at accepted refused =
        let next = refused-next state line edit fault at in
        let no = refused-count state line edit fault at in
        subst (λ (after : State). LeadBack state (standing after there) (edits_at state (commands.Edit line edit) + edits_among after there)) (sym next)
        (subst (λ n. LeadBack state (standing state there) (n + edits_among state there)) (sym no) (not-more refused))
made-edits state (commands.Stray line ∷ there) is are none = not-more (made-edits state there is (others _ there are) none)
made-edits state (commands.Undo line ∷ there) is are none = absurd (omega (arith, none))
made-edits state (commands.Render view ∷ there) is are none =
    let leads = made-edits (state_after state (commands.Render view)) there is (others _ there are) none in
    record { edits = leads.edits; before = leads.before; as_many = omega (arith, leads.as_many); back = leads.back }
made-edits state (commands.Height view ∷ there) is are none = not-more (made-edits state there is (others _ there are) none)
made-edits state (commands.Mesh view ∷ there) is are none =
    let leads = made-edits (state_after state (commands.Mesh view)) there is (others _ there are) none in
    record { edits = leads.edits; before = leads.before; as_many = omega (arith, leads.as_many); back = leads.back }
made-edits state (commands.Text ∷ there) is are none = not-more (made-edits state there is (others _ there are) none)
made-edits state (commands.Cost ∷ there) is are none = not-more (made-edits state there is (others _ there are) none)

pub undos-lead-back : UndosLeadBack
undos-lead-back state there back is are taken_back =
    let leads = made-edits state there is are taken_back.no_undo in
    ap model_of (standing-append state there back)
    ∙ undone-all (standing state there) back leads.edits state.undo taken_back.no_edit leads.before (taken_back.as_many ∙ sym leads.as_many)
    ∙ ap (λ (clauses : List Clause). model clauses state.undo) leads.back

-- a frame that one command draws is there where another one that is the same comes
drawn-too : (frame : Frame) (state : State) (before after : List Command) (told draw : Command) → told ≡ draw
    → HasFrame frame (standing state before).clauses (replayed state before) (replayed state (before ++ told ∷ after))
    → HasFrame frame (standing state before).clauses (replayed state before) (replayed state (before ++ draw ∷ after))
drawn-too frame state before after told draw same shows =
    subst (λ d. HasFrame frame (standing state before).clauses (replayed state before) (replayed state (before ++ d ∷ after))) same shows

pub frames-show : FramesShowWhatStands
frames-show state before after (frames.Render view) draw by =
    let same : commands.Render view ≡ draw = cc in
    drawn-too (frames.Render view) state before after (commands.Render view) draw same (record {
      part = framed (frames.Render view) (standing state before);
      bytes = refl;
      after = replayed (state_after (standing state before) (commands.Render view)) after;
      stands = replayed-between state before (commands.Render view) after;
    })
frames-show state before after (frames.Height view) draw by =
    let same : commands.Height view ≡ draw = cc in
    drawn-too (frames.Height view) state before after (commands.Height view) draw same (record {
      part = framed (frames.Height view) (standing state before);
      bytes = refl;
      after = replayed (state_after (standing state before) (commands.Height view)) after;
      stands = replayed-between state before (commands.Height view) after;
    })
frames-show state before after (frames.Shade view) draw by = absurd cc
frames-show state before after (frames.Mesh view) draw by =
    let same : commands.Mesh view ≡ draw = cc in
    drawn-too (frames.Mesh view) state before after (commands.Mesh view) draw same (record {
      part = framed (frames.Mesh view) (standing state before);
      bytes = refl;
      after = replayed (state_after (standing state before) (commands.Mesh view)) after;
      stands = replayed-between state before (commands.Mesh view) after;
    })
frames-show state before after (frames.Contour view) draw by = absurd cc
frames-show state before after frames.Text draw by =
    let same : commands.Text ≡ draw = cc in
    drawn-too frames.Text state before after commands.Text draw same (record {
      part = framed frames.Text (standing state before);
      bytes = refl;
      after = replayed (state_after (standing state before) commands.Text) after;
      stands = replayed-between state before commands.Text after;
    })

-- What edits and undos write, and what stands after them.
use Rattle.std.proofs.Common.{◌≡◌, ◌≢◌, ℕ, List, [], ◌∷◌, ◌++◌, Result, Ok, Err, refl, sym, ap, ◌∙◌, append-nil}
use Rattle.std.specs.Prelude.{◌↔◌, IsErr, OnOk}
use Rattle.edit_script.specs.declared.command.Command.TheVariants as commands
use Rattle.edit_session.specs.Sessions.{State, after_edit, model_of, with_model}
use Rattle.model_frames.specs.Frames.{Part}
use Rattle.model_frames.specs.Work.{no_work}
use Rattle.solid_model.specs.Edited.{IsUndone, given_or}
use Rattle.solid_model.specs.Edits.{edited}
use Rattle.solid_model.specs.declared.clause.Clause.{Clause}
use Rattle.solid_model.specs.declared.edit.Edit.{Edit}
use Rattle.solid_model.specs.declared.edit.EditFault.{EditFault as Fault}
use Rattle.solid_model.specs.declared.edit.EditFault.TheVariants as EditFault
use Rattle.modeller_cmd.specs.Frames.{refused_line}
use Rattle.modeller_cmd.specs.Parts.{bytes_of_parts, work_of_parts}
use Rattle.modeller_cmd.specs.Replays.{after_undo, parts_at, refusal, state_after, undo_parts}
use Rattle.modeller_cmd.specs.declared.stop.Stop.{Stop}
use Rattle.modeller_cmd.proofs.WorkSums.{both-none}

-- an edit that is accepted writes nothing, and one that is refused its line
pub edit-silent : (state : State) (new : List Clause) (line : ℕ) (edit : Edit) → edited state.clauses edit ≡ Ok new → parts_at state (commands.Edit line edit) ≡ []
edit-silent state new line edit is = rw is refl

pub edit-refused : (state : State) (line : ℕ) (edit : Edit) (fault : Fault) → edited state.clauses edit ≡ Err fault
    → parts_at state (commands.Edit line edit) ≡ refusal line fault ∷ []
edit-refused state line edit fault is = rw is refl

pub edit-idle : (state : State) (line : ℕ) (edit : Edit) → work_of_parts (parts_at state (commands.Edit line edit)) ≡ no_work
edit-idle state line edit = by (edited state.clauses edit) refl
  where
    by : (r : Result (List Clause) Fault) → edited state.clauses edit ≡ r → work_of_parts (parts_at state (commands.Edit line edit)) ≡ no_work
    by (Ok new) is = rw is refl
    by (Err fault) is = rw is (both-none no_work)

-- what stands after it depends on what it gives
pub edit-kept : (state new : State) (line : ℕ) (edit : Edit) → edited state.clauses edit ≡ Ok new.clauses → new ≡ after_edit state edit new.clauses
    → new ≡ state_after state (commands.Edit line edit)
edit-kept state new line edit is kept = rw is kept

pub edit-stands : (state : State) (line : ℕ) (edit : Edit) (fault : Fault) → edited state.clauses edit ≡ Err fault
    → state ≡ state_after state (commands.Edit line edit)
edit-stands state line edit fault is = rw is refl

-- an undo writes its line where it finds no edit
pub undo-silent : (state new : State) (line : ℕ) → IsUndone (model_of state) (model_of new) → parts_at state (commands.Undo line) ≡ []
undo-silent state new line undone = ap (undo_parts line) undone.first

pub undo-refused : (state : State) (line : ℕ) (fault : Fault) → fault ≡ EditFault.NothingToUndo → state.undo ≡ []
    → parts_at state (commands.Undo line) ≡ refusal line fault ∷ []
undo-refused state line fault is none = ap (undo_parts line) none ∙ ap (λ why. refusal line why ∷ []) (sym is)

pub undo-idle : (state : State) (line : ℕ) → work_of_parts (parts_at state (commands.Undo line)) ≡ no_work
undo-idle state line = by state.undo
  where
    by : (edits : List Edit) → work_of_parts (undo_parts line edits) ≡ no_work
    by [] = both-none no_work
    by (last ∷ others) = refl

-- and after an undo on whether it finds one
pub undo-stands : (state new : State) (line : ℕ) → IsUndone (model_of state) (model_of new) → new ≡ with_model state (model_of new)
    → new ≡ state_after state (commands.Undo line)
undo-stands state new line undone stands =
    stands
    ∙ sym (ap (after_undo state) undone.first
    ∙ ap (λ (given : Result (List Clause) Fault). with_model state (record { clauses = given_or state.clauses given; undo = new.undo })) undone.accepted)

pub undo-passes : (state : State) (line : ℕ) → state.undo ≡ [] → state ≡ state_after state (commands.Undo line)
undo-passes state line none = sym (ap (after_undo state) none)

-- nothing is added where nothing is written, and the line where it is all that is
pub silent-said : (lines : List ℕ) (parts : List Part) → parts ≡ [] → lines ≡ lines ++ bytes_of_parts parts
silent-said lines parts none = sym (append-nil lines) ∙ ap (λ parts. lines ++ bytes_of_parts parts) (sym none)

pub line-said : (lines : List ℕ) (parts : List Part) (line : ℕ) (fault : Fault) → parts ≡ refusal line fault ∷ [] → lines ++ refused_line line fault ≡ lines ++ bytes_of_parts parts
line-said lines parts line fault is =
    ap (λ bytes. lines ++ bytes) (sym (append-nil (refused_line line fault)) ∙ ap bytes_of_parts (sym is))

-- what a line is said of is no want of memory
pub refused-ok : {T : Type 0} (r : Result T Stop) (fault : Fault) (P Q : Type 0) → IsErr r ↔ (fault ≡ EditFault.NoMemory) → (fault ≢ EditFault.NoMemory → P → Q) → OnOk r P → OnOk r Q
refused-ok (Ok x) fault P Q memory by p = by (λ is. let no = memory.1 is in cc) p
refused-ok (Err why) fault P Q memory by p = tt

-- Models that are edited, and what leads back.
use Rattle.std.specs.Prelude.{◌≡◌, List, [], ◌∷◌, ◌++◌, Result, Ok, Err, IsOk}
use Rattle.solid_model.specs.declared.clause.Clause.{Clause}
use Rattle.solid_model.specs.declared.edit.Edit.{Edit}
use Rattle.solid_model.specs.declared.edit.EditFault.{EditFault}
use Rattle.solid_model.specs.Edits.{edited}

-- a model that is edited: its clauses, and the edits that take back those that were accepted, the latest
-- first
pub record Edited : Type 0 where
  pub clauses : List Clause
  pub undo : List Edit

-- the clauses that an edit gives, where it is accepted, and else those before it
abbrev pub given_or : List Clause → Result (List Clause) EditFault → List Clause
given_or clauses (Ok new) = new
given_or clauses (Err fault) = clauses

-- what clauses become by some edits, one after another
unfoldable pub after_edits : List Clause → List Edit → List Clause
after_edits clauses [] = clauses
after_edits clauses (e ∷ es) = after_edits (given_or clauses (edited clauses e)) es

-- each of some edits is accepted in its turn: by what the clauses become by those before it
abbrev pub AreAccepted : List Clause → List Edit → Type 0
AreAccepted clauses edits =
    (before : List Edit) (edit : Edit) (after : List Edit) → edits ≡ before ++ edit ∷ after
    → IsOk (edited (after_edits clauses before) edit)

-- the clauses that a model had when its first edit was made: those that the edits lead back to
abbrev pub opening : Edited → List Clause
opening state = after_edits state.clauses state.undo

-- an edit was taken back, the one that was accepted last: the first of the edits that take one back was
-- accepted, and is not among them any more
pub record IsUndone (before after : Edited) : Type 0 where
  pub edit : Edit
  pub first : before.undo ≡ edit ∷ after.undo
  pub accepted : edited before.clauses edit ≡ Ok after.clauses

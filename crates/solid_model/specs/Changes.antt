-- What edits do, by places.
use Rattle.std.specs.Prelude.{◌≡◌, ◌<◌, ◌≤◌, List, length, map, set, Some, None, Result, ⊤}
use Rattle.std.specs.List.{insert, position, remove}
use Rattle.solid_model.specs.declared.change.Change.{Change}
use Rattle.solid_model.specs.declared.change.Change.TheVariants.{Write, Insert, Remove}
use Rattle.solid_model.specs.declared.clause.Clause.{Clause}
use Rattle.solid_model.specs.declared.edit.Edit.{Edit}
use Rattle.solid_model.specs.declared.edit.Edit.TheVariants.{Set, Add, Put, Cut}
use Rattle.solid_model.specs.declared.edit.EditFault.{EditFault}
use Rattle.solid_model.specs.declared.edit.EditFault.TheVariants as edit_fault
use Rattle.solid_model.specs.declared.refusal.Refusal.{Refusal}
use Rattle.solid_model.specs.declared.refusal.Refusal.TheVariants.{Plain, InUse}
use Rattle.solid_model.specs.Adding.{added}
use Rattle.solid_model.specs.Clauses.{place_of}
use Rattle.solid_model.specs.Seen.{clause_seen}
use Rattle.solid_model.specs.Surgery.{down, formed, moved, put_in, reads, taken_out, up}
use Rattle.solid_model.specs.Tables.{HasOperandsBefore}

-- the clauses after an edit, or its first fault, by places
abbrev pub surgery : List Clause → Edit → Result (List Clause) EditFault
surgery clauses (Set name form) = formed clauses name form
surgery clauses (Add name form) = added clauses name form
surgery clauses (Put next name form) = put_in clauses next name form
surgery clauses (Cut name) = taken_out clauses name

-- the clauses after a change
abbrev pub done : List Clause → Change → List Clause
done clauses (Write at clause) = set clauses at (clause_seen clause)
done clauses (Insert at clause) = insert (map (moved (up at)) clauses) at (clause_seen clause)
done clauses (Remove at) = remove (map (moved (down at)) clauses) at

-- A change that clauses allow: a clause that is written anew keeps its name, one that is put in has
-- a new name and room, one that is taken out is no operand, and operands stand before the place.
abbrev pub Allows : List Clause → Change → Type 0
Allows clauses (Write at clause) =
    (place_of clauses clause.name.now ≡ Some at) × HasOperandsBefore at (clause_seen clause)
Allows clauses (Insert at clause) =
    (at ≤ length clauses) × (length clauses < 65535) × (place_of clauses clause.name.now ≡ None)
    × HasOperandsBefore at (clause_seen clause)
Allows clauses (Remove at) = (at < length clauses) × (position (reads at) clauses ≡ None)

-- the change puts a clause in
abbrev pub PutsIn : Change → Type 0
PutsIn (Write at clause) = ⊥
PutsIn (Insert at clause) = ⊤
PutsIn (Remove at) = ⊥

-- the fault for which an edit is refused
abbrev pub fault_of : Refusal → EditFault
fault_of (Plain fault) = fault
fault_of (InUse at user) = edit_fault.InUse user

-- where a refusal says that the clause at a place is in use, it tells the first that reads it
abbrev pub TellsUser : List Clause → Refusal → Type 0
TellsUser clauses (Plain fault) = ⊤
TellsUser clauses (InUse at user) =
    (at < length clauses) × (position (reads at) clauses ≡ Some user)

-- a change is what an edit says, by places
abbrev pub DoesEdit : List Clause → Edit → Change → Type 0
DoesEdit clauses (Set name form) (Write at clause) = place_of clauses name ≡ Some at
DoesEdit clauses (Add name form) (Insert at clause) = clause.name.now ≡ name
DoesEdit clauses (Put next name form) (Insert at clause) = clause.name.now ≡ name
DoesEdit clauses (Cut name) (Remove at) = place_of clauses name ≡ Some at
DoesEdit clauses edit change = ⊥

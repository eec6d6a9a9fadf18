-- Adding a clause by the places of its operands, as a table does it.
use Rattle.std.specs.Prelude.{ℕ, List, [], ◌∷◌, ◌++◌, Option, Some, None, Result, Ok, Err, slice_get}
use Rattle.std.specs.Option.{option_map_or}
use Rattle.solid_model.specs.declared.clause.Clause.{Clause}
use Rattle.solid_model.specs.declared.edit.EditFault.{EditFault}
use Rattle.solid_model.specs.declared.edit.EditFault.TheVariants.{UnknownName, DoubleName, Full, NoMemory}
use Rattle.solid_model.specs.declared.push_fault.PushFault.{PushFault}
use Rattle.solid_model.specs.declared.push_fault.PushFault.TheVariants as push
use Rattle.solid_model.specs.Clauses.{place_of}
use Rattle.solid_model.specs.Parts.{Parts}
use Rattle.solid_model.specs.Pushing.{push_fault}

-- the place that an operand's name stands for, 0 where the form has no such operand, or None where
-- it names no clause
abbrev pub operand : List Clause → List (List ℕ) → ℕ → Option ℕ
operand clauses args k = option_map_or (place_of clauses) (slice_get args k) (Some 0)

-- the clause of this name and form after these clauses, or None where an argument names none of them
abbrev pub clause_after : List Clause → List ℕ → Parts → Option Clause
clause_after clauses name form = both (operand clauses form.args 0) (operand clauses form.args 1)
  where
    both : Option ℕ → Option ℕ → Option Clause
    both (Some a) (Some b) =
        Some (record { name = name; op = form.op; a = a; b = b; value = form.value })
    both a b = None

-- the fault of an edit that a fault of its clause is
abbrev pub edit_fault : PushFault → EditFault
edit_fault push.DoubleName = DoubleName
edit_fault push.Full = Full
edit_fault push.NoMemory = NoMemory

-- the clauses with one at their end, unless it has a fault
abbrev pub with_clause : List Clause → Clause → Option PushFault → Result (List Clause) EditFault
with_clause clauses clause None = Ok (clauses ++ clause ∷ [])
with_clause clauses clause (Some fault) = Err (edit_fault fault)

-- the clauses with a new one at their end, or the first fault
abbrev pub added : List Clause → List ℕ → Parts → Result (List Clause) EditFault
added clauses name form =
    option_map_or (λ clause. with_clause clauses clause (push_fault clauses name))
    (clause_after clauses name form) (Err UnknownName)

-- Edits by the places of operands, as a table does them.
use Rattle.std.specs.Prelude.{ℕ, ◌+◌, ◌-◌, ◌==◌, nat_le, nat_lt, Bool, not, ◌&&◌, ◌||◌, List, length, map, set, Result, Ok, Err, is_some, if◌then◌else◌}
use Rattle.std.specs.List.{insert, position, remove}
use Rattle.std.specs.Option.{option_map_or}
use Rattle.fixed_ops.specs.Arity.{arity_of}
use Rattle.solid_model.specs.declared.clause.Clause.{Clause}
use Rattle.solid_model.specs.declared.edit.EditFault.{EditFault}
use Rattle.solid_model.specs.declared.edit.EditFault.TheVariants.{UnknownName, DoubleName, NotEarlier, InUse, LastClause, Full}
use Rattle.solid_model.specs.Adding.{clause_after}
use Rattle.solid_model.specs.Clauses.{place_of}
use Rattle.solid_model.specs.Parts.{Parts}

-- whether each operand of a clause stands before a place
abbrev pub reads_before : ℕ → Clause → Bool
reads_before place c =
    (nat_lt (arity_of c.op) 1 || nat_lt c.a place) && (nat_lt (arity_of c.op) 2 || nat_lt c.b place)

-- whether the clause at a place is an operand of a clause
abbrev pub reads : ℕ → Clause → Bool
reads place c =
    (nat_le 1 (arity_of c.op) && c.a == place) || (nat_le 2 (arity_of c.op) && c.b == place)

-- a clause whose operands have moved
abbrev pub moved : (ℕ → ℕ) → Clause → Clause
moved to c = record {
  name = c.name;
  op = c.op;
  a = if nat_le 1 (arity_of c.op) then to c.a else c.a;
  b = if nat_le 2 (arity_of c.op) then to c.b else c.b;
  value = c.value;
}

-- where a place has moved to after a clause was put in at another, and after the clause at another
-- was taken out
abbrev pub up : ℕ → ℕ → ℕ
up at k = if nat_le at k then k + 1 else k

abbrev pub down : ℕ → ℕ → ℕ
down at k = if nat_lt at k then k - 1 else k

-- the clause at a place replaced by one whose operands stand before it
abbrev pub with_clause_at : List Clause → ℕ → Clause → Result (List Clause) EditFault
with_clause_at clauses at c = if reads_before at c then Ok (set clauses at c) else Err NotEarlier

-- the clause of this name with another form, or the first fault
abbrev pub formed : List Clause → List ℕ → Parts → Result (List Clause) EditFault
formed clauses name form =
    option_map_or
    (λ at. option_map_or (with_clause_at clauses at) (clause_after clauses name form)
    (Err UnknownName))
    (place_of clauses name) (Err UnknownName)

-- a clause of a new name put in at a place, before which its operands stand
abbrev pub with_clause_before : List Clause → ℕ → Clause → Result (List Clause) EditFault
with_clause_before clauses at c =
    if is_some (place_of clauses c.name) then Err DoubleName
    else if not (reads_before at c) then Err NotEarlier
    else if nat_le 65535 (length clauses) then Err Full
    else Ok (insert (map (moved (up at)) clauses) at c)

-- a clause of this name and form directly before that of another name, or the first fault
abbrev pub put_in : List Clause → List ℕ → List ℕ → Parts → Result (List Clause) EditFault
put_in clauses next name form =
    option_map_or
    (λ at. option_map_or (with_clause_before clauses at) (clause_after clauses name form)
    (Err UnknownName))
    (place_of clauses next) (Err UnknownName)

-- the clauses without that at a place
abbrev pub without_clause : List Clause → ℕ → Result (List Clause) EditFault
without_clause clauses at =
    option_map_or (λ user. Err (InUse user)) (position (reads at) clauses)
    (if nat_le (length clauses) 1 then Err LastClause
    else Ok (remove (map (moved (down at)) clauses) at))

-- the clauses without that of this name, or the first fault
abbrev pub taken_out : List Clause → List ℕ → Result (List Clause) EditFault
taken_out clauses name =
    option_map_or (without_clause clauses) (place_of clauses name) (Err UnknownName)

-- What an edit gives: surgery on the list of named clauses, after which names are resolved to places.
use Rattle.std.specs.Prelude.{ℕ, nat_le, Bool, not, ◌&&◌, List, [], ◌∷◌, ◌++◌, length, set, take, Result, Ok, Err, if◌then◌else◌, ⊤}
use Rattle.std.specs.List.{insert, list_all, list_any, position, position_or_len, remove}
use Rattle.std.specs.Option.{option_map_or}
use Rattle.std.specs.Str.{bytes_eq}
use Rattle.solid_model.specs.declared.clause.Clause.{Clause}
use Rattle.solid_model.specs.declared.edit.Edit.{Edit}
use Rattle.solid_model.specs.declared.edit.Edit.TheVariants.{Set, Add, Put, Cut}
use Rattle.solid_model.specs.declared.edit.EditFault.{EditFault}
use Rattle.solid_model.specs.declared.edit.EditFault.TheVariants.{UnknownName, DoubleName, NotEarlier, InUse, LastClause, Full}
use Rattle.solid_model.specs.Named.{Named, named_of, placed}
use Rattle.solid_model.specs.Parts.{Parts, IsForm}
use Rattle.solid_model.specs.Names.{IsName}

-- whether a clause has this name, and whether each of some names is one of a clause
abbrev pub is_named : List Named → List ℕ → Bool
is_named clauses name = list_any (λ c. bytes_eq name c.name) clauses

abbrev pub are_named : List Named → List (List ℕ) → Bool
are_named clauses names = list_all (λ name. is_named clauses name) names

-- the place of the clause of this name, or how many clauses there are where none has it
abbrev pub place_among : List Named → List ℕ → ℕ
place_among clauses name = position_or_len (λ c. bytes_eq name c.name) clauses

-- the clauses that stand before the one of this name
abbrev pub before : List Named → List ℕ → List Named
before clauses name = take (place_among clauses name) clauses

-- whether a clause has this name as an argument
abbrev pub has_argument : List ℕ → Named → Bool
has_argument name c = list_any (λ arg. bytes_eq name arg) c.form.args

-- the clause of this name gets another form, where it and each argument are named, and each
-- argument stands before it
abbrev pub with_form : List Named → List ℕ → Parts → Result (List Named) EditFault
with_form clauses name form =
    if not (is_named clauses name && are_named clauses form.args) then Err UnknownName
    else if not (are_named (before clauses name) form.args) then Err NotEarlier
    else Ok (set clauses (place_among clauses name) (record { name = name; form = form }))

-- a clause of this name and form goes last, where each argument is named, the name is new, and there
-- is room
abbrev pub with_last : List Named → List ℕ → Parts → Result (List Named) EditFault
with_last clauses name form =
    if not (are_named clauses form.args) then Err UnknownName
    else if is_named clauses name then Err DoubleName
    else if nat_le 65535 (length clauses) then Err Full
    else Ok (clauses ++ record { name = name; form = form } ∷ [])

-- a clause of this name and form goes directly before the clause of another name, where that and
-- each argument are named, the name is new, each argument stands before the other clause, and there
-- is room
abbrev pub with_next : List Named → List ℕ → List ℕ → Parts → Result (List Named) EditFault
with_next clauses next name form =
    if not (is_named clauses next && are_named clauses form.args) then Err UnknownName
    else if is_named clauses name then Err DoubleName
    else if not (are_named (before clauses next) form.args) then Err NotEarlier
    else if nat_le 65535 (length clauses) then Err Full
    else Ok (insert clauses (place_among clauses next) (record { name = name; form = form }))

-- the clause of this name goes, where it is named, no clause has it as an argument, and it is not
-- the only one
abbrev pub without : List Named → List ℕ → Result (List Named) EditFault
without clauses name =
    if not (is_named clauses name) then Err UnknownName
    else option_map_or (λ user. Err (InUse user)) (position (has_argument name) clauses)
    (if nat_le (length clauses) 1 then Err LastClause
    else Ok (remove clauses (place_among clauses name)))

-- the named clauses after an edit, or the first fault for which it is refused
abbrev pub changed : List Named → Edit → Result (List Named) EditFault
changed clauses (Set name form) = with_form clauses name form
changed clauses (Add name form) = with_last clauses name form
changed clauses (Put next name form) = with_next clauses next name form
changed clauses (Cut name) = without clauses name

-- the clauses that named ones are by places, where there is no fault
abbrev pub resolved : Result (List Named) EditFault → Result (List Clause) EditFault
resolved (Ok clauses) = Ok (placed clauses)
resolved (Err fault) = Err fault

-- the clauses after an edit, or the first fault for which it is refused
abbrev pub edited : List Clause → Edit → Result (List Clause) EditFault
edited clauses edit = resolved (changed (named_of clauses) edit)

-- the name of an edit is a name, and its form is one
abbrev pub IsEdit : Edit → Type 0
IsEdit (Set name form) = IsName name × IsForm form
IsEdit (Add name form) = IsName name × IsForm form
IsEdit (Put next name form) = IsName name × IsForm form
IsEdit (Cut name) = IsName name

-- the edit makes a clause, rather than change one or take one out
abbrev pub MakesClause : Edit → Type 0
MakesClause (Set name form) = ⊥
MakesClause (Add name form) = ⊤
MakesClause (Put next name form) = ⊤
MakesClause (Cut name) = ⊥

-- the first of some edits makes a clause
abbrev pub FirstMakesClause : List Edit → Type 0
FirstMakesClause [] = ⊥
FirstMakesClause (e ∷ es) = MakesClause e

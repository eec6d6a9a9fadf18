-- Edits and values of a few clauses, worked out by hand.
use Rattle.std.proofs.Common.{◌≡◌, nat_le, pos, negsuc, [], ◌∷◌, ◌++◌, List, length, map, Ok, Err, true, false, refl, subst, arith}
use Rattle.std.specs.Prelude.{IsOk}
use Rattle.std.proofs.lemmas.Bool.{false≢true}
use Rattle.fixed_ops.specs.declared.operation.Op.TheVariants as ops
use Rattle.fixed_ops.specs.Points.{Point}
use Rattle.fixed_ops.specs.Slopes.{flat, one}
use Rattle.solid_model.specs.declared.clause.Clause.{Clause}
use Rattle.solid_model.specs.declared.edit.Edit.TheVariants.{Set, Add, Put, Cut}
use Rattle.solid_model.specs.declared.edit.EditFault.TheVariants.{UnknownName, DoubleName, NotEarlier, InUse, LastClause, Full}
use Rattle.solid_model.specs.declared.change.Change.TheVariants.{Write, Insert, Remove}
use Rattle.solid_model.specs.declared.clause_ref.ClauseRef.{ClauseRef}
use Rattle.solid_model.specs.declared.edit_ref.LentEdit.TheVariants as lent
use Rattle.solid_model.specs.declared.form_ref.ArgsRef.TheVariants as args
use Rattle.solid_model.specs.declared.key.KeyBytes.TheVariants as keys
use Rattle.solid_model.specs.declared.refusal.Refusal.TheVariants as refusals
use Rattle.solid_model.specs.Changes.{PutsIn, TellsUser, fault_of}
use Rattle.solid_model.specs.Edited.{after_edits, opening, AreAccepted}
use Rattle.solid_model.specs.Edits.{before, edited, is_named, FirstMakesClause, MakesClause}
use Rattle.solid_model.specs.Keys.{key_bytes}
use Rattle.solid_model.specs.LentArgs.{args_seen}
use Rattle.solid_model.specs.LentEdits.{edit_seen}
use Rattle.solid_model.specs.Named.{named_of, placed}
use Rattle.solid_model.specs.Names.{IsName, is_name}
use Rattle.solid_model.specs.Parts.{Parts}
use Rattle.solid_model.specs.Slopes.{sloped_values, solid_sloped}
use Rattle.solid_model.specs.Values.{values, solid_value}

-- x, 0.5, and their difference, named by the bytes 120, 99 and 102
abbrev x : Clause
x = record { name = 120 ∷ []; op = ops.X; a = 0; b = 0; value = pos 0 }

abbrev c : Clause
c = record { name = 99 ∷ []; op = ops.Const; a = 0; b = 0; value = pos 2147483648 }

abbrev f : Clause
f = record { name = 102 ∷ []; op = ops.Sub; a = 0; b = 1; value = pos 0 }

abbrev model : List Clause
model = x ∷ c ∷ f ∷ []

-- at x = 2 it is 1.5
abbrev point : Point
point = record { x = pos 8589934592; y = pos 1; z = negsuc 2 }

model_values : values point model ≡ pos 8589934592 ∷ pos 2147483648 ∷ pos 6442450944 ∷ []
model_values = refl

model_value : solid_value point model ≡ pos 6442450944
model_value = refl

-- it rises by one along x, where the constant stands still
model_slopes : sloped_values point model ≡ record { value = pos 8589934592; dx = one; dy = pos 0; dz = pos 0 }
    ∷ record flat { value = pos 2147483648 }
    ∷ record { value = pos 6442450944; dx = one; dy = pos 0; dz = pos 0 } ∷ []
model_slopes = refl

model_slope : solid_sloped point model ≡ record { value = pos 6442450944; dx = one; dy = pos 0; dz = pos 0 }
model_slope = refl

-- a clause of the name 103 before that of the constant, whose place moves
put_moves : edited model (Put (99 ∷ []) (103 ∷ []) (record { op = ops.Neg; args = (120 ∷ []) ∷ []; value = pos 0 }))
    ≡ Ok (x ∷ record { name = 103 ∷ []; op = ops.Neg; a = 0; b = 0; value = pos 0 } ∷ c ∷ record { name = 102 ∷ []; op = ops.Sub; a = 0; b = 2; value = pos 0 } ∷ [])
put_moves = refl

-- the operands the other way round
set_turns : edited model (Set (102 ∷ []) (record { op = ops.Sub; args = (99 ∷ []) ∷ (120 ∷ []) ∷ []; value = pos 0 }))
    ≡ Ok (x ∷ c ∷ record { name = 102 ∷ []; op = ops.Sub; a = 1; b = 0; value = pos 0 } ∷ [])
set_turns = refl

-- a clause may not read itself; one that is read stays; the output goes
set_refused : edited model (Set (99 ∷ []) (record { op = ops.Neg; args = (99 ∷ []) ∷ []; value = pos 0 })) ≡ Err NotEarlier
set_refused = refl

cut_refused : edited model (Cut (99 ∷ [])) ≡ Err (InUse 2)
cut_refused = refl

cut_output : edited model (Cut (102 ∷ [])) ≡ Ok (x ∷ c ∷ [])
cut_output = refl

cut_last : edited (x ∷ []) (Cut (120 ∷ [])) ≡ Err LastClause
cut_last = refl

-- a name that stands already is told before an argument that stands too late, and after one that stands nowhere
put_refused : edited model (Put (99 ∷ []) (120 ∷ []) (record { op = ops.Neg; args = (102 ∷ []) ∷ []; value = pos 0 })) ≡ Err DoubleName
put_refused = refl

put_unknown : edited model (Put (99 ∷ []) (120 ∷ []) (record { op = ops.Neg; args = (103 ∷ []) ∷ []; value = pos 0 })) ≡ Err UnknownName
put_unknown = refl

-- of several users the first is told
cut_of_two_users : edited (x ∷ record { name = 103 ∷ []; op = ops.Neg; a = 0; b = 0; value = pos 0 } ∷ record { name = 102 ∷ []; op = ops.Sub; a = 1; b = 0; value = pos 0 } ∷ []) (Cut (120 ∷ [])) ≡ Err (InUse 1)
cut_of_two_users = refl

-- at the limit a clause of a new name is one too many, and below it there is room
abbrev leaf : Parts
leaf = record { op = ops.Y; args = []; value = pos 0 }

add_full : (clauses : List Clause) → is_named (named_of clauses) (113 ∷ []) ≡ false → nat_le 65535 (length (named_of clauses)) ≡ true
    → edited clauses (Add (113 ∷ []) leaf) ≡ Err Full
add_full clauses new full = rw (new, full) refl

add_room : (clauses : List Clause) → is_named (named_of clauses) (113 ∷ []) ≡ false → nat_le 65535 (length (named_of clauses)) ≡ false
    → edited clauses (Add (113 ∷ []) leaf) ≡ Ok (placed (named_of clauses ++ record { name = 113 ∷ []; form = leaf } ∷ []))
add_room clauses new room = rw (new, room) refl

put_full : (clauses : List Clause) → is_named (named_of clauses) (99 ∷ []) ≡ true → is_named (named_of clauses) (113 ∷ []) ≡ false
    → nat_le 65535 (length (named_of clauses)) ≡ true → edited clauses (Put (99 ∷ []) (113 ∷ []) leaf) ≡ Err Full
put_full clauses there new full = rw (there, new, full) refl

-- what is wrong with the names is told before that, however many clauses there are
add_double : (clauses : List Clause) → is_named (named_of clauses) (113 ∷ []) ≡ true → edited clauses (Add (113 ∷ []) leaf) ≡ Err DoubleName
add_double clauses stands = rw stands refl

put_late : (clauses : List Clause) → is_named (named_of clauses) (99 ∷ []) ≡ true → is_named (named_of clauses) (113 ∷ []) ≡ false
    → is_named (named_of clauses) (120 ∷ []) ≡ true → is_named (before (named_of clauses) (99 ∷ [])) (120 ∷ []) ≡ false
    → edited clauses (Put (99 ∷ []) (113 ∷ []) (record { op = ops.Neg; args = (120 ∷ []) ∷ []; value = pos 0 })) ≡ Err NotEarlier
put_late clauses there new argument late = rw (there, new, argument, late) refl

-- a change of a clause and the way out of one make none
set_makes_none : MakesClause (Set (120 ∷ []) leaf) → ⊥
set_makes_none makes = makes

cut_makes_none : MakesClause (Cut (120 ∷ [])) → ⊥
cut_makes_none makes = makes

put_makes_one : MakesClause (Put (99 ∷ []) (120 ∷ []) leaf)
put_makes_one = tt

-- of some edits the first is asked, and none makes no clause
no_edit_makes_none : FirstMakesClause [] → ⊥
no_edit_makes_none makes = makes

first_makes : FirstMakesClause (Add (120 ∷ []) leaf ∷ Cut (120 ∷ []) ∷ [])
first_makes = tt

second_is_not_asked : FirstMakesClause (Cut (120 ∷ []) ∷ Add (120 ∷ []) leaf ∷ []) → ⊥
second_is_not_asked makes = makes

-- a name is a token that does not begin with `#`: it is not empty, and has no space, tab, carriage return or line feed
names : map is_name ((97 ∷ []) ∷ (97 ∷ 35 ∷ []) ∷ [] ∷ (35 ∷ 97 ∷ []) ∷ (97 ∷ 32 ∷ 98 ∷ []) ∷ (97 ∷ 9 ∷ []) ∷ (13 ∷ 97 ∷ []) ∷ (97 ∷ 10 ∷ 98 ∷ []) ∷ [])
    ≡ true ∷ true ∷ false ∷ false ∷ false ∷ false ∷ false ∷ false ∷ []
names = refl

short_name : IsName (97 ∷ [])
short_name = refl

no_byte_is_no_name : IsName [] → ⊥
no_byte_is_no_name is = let same : false ≡ true = is in (cc)

-- one change of three puts a clause in
insert_puts_in : (clause : ClauseRef) → PutsIn (Insert 1 clause)
insert_puts_in clause = tt

write_puts_none_in : (clause : ClauseRef) → PutsIn (Write 1 clause) → ⊥
write_puts_none_in clause puts = puts

remove_puts_none_in : PutsIn (Remove 1) → ⊥
remove_puts_none_in puts = puts

-- a clause that is in use is refused with the place of its user, not with its own
fault_of_a_user : fault_of (refusals.InUse 1 2) ≡ InUse 2
fault_of_a_user = refl

fault_alone : fault_of (refusals.Plain NotEarlier) ≡ NotEarlier
fault_alone = refl

-- the constant at the place 1 is read by the difference at the place 2
user_of_the_constant : TellsUser model (refusals.InUse 1 2)
user_of_the_constant = (omega arith, refl)

-- of two users the first is told
abbrev two_users : List Clause
two_users = x ∷ record { name = 103 ∷ []; op = ops.Neg; a = 0; b = 0; value = pos 0 } ∷ f ∷ []

first_of_two_users : TellsUser two_users (refusals.InUse 0 1)
first_of_two_users = (omega arith, refl)

-- a place behind the last one is no clause's, whoever reads it
user_of_no_clause : TellsUser (x ∷ record f { b = 2 } ∷ []) (refusals.InUse 2 1) → ⊥
user_of_no_clause tells = absurd (omega (arith, tells.0))

-- another fault tells of no user
no_user : TellsUser [] (refusals.Plain Full)
no_user = tt

-- the edits that lead back are followed from the first one on
opens_with : opening (record { clauses = model; undo = Cut (102 ∷ []) ∷ Cut (99 ∷ []) ∷ [] }) ≡ x ∷ []
unfolding after_edits
opens_with = refl

-- the constant may go once the difference that reads it is gone
cuts_in_turn : AreAccepted model (Cut (102 ∷ []) ∷ Cut (99 ∷ []) ∷ [])
unfolding after_edits
cuts_in_turn [] edit after parts = let same : Cut (102 ∷ []) ≡ edit = (cc) in subst (λ e. IsOk (edited model e)) same refl
cuts_in_turn (d ∷ []) edit after parts =
    let first : Cut (102 ∷ []) ≡ d = (cc) in
    let same : Cut (99 ∷ []) ≡ edit = (cc) in
    subst (λ e. IsOk (edited (after_edits model (d ∷ [])) e)) same (subst (λ e. IsOk (edited (after_edits model (e ∷ [])) (Cut (99 ∷ [])))) first refl)
cuts_in_turn (d ∷ e ∷ []) edit after parts = (cc)
cuts_in_turn (d ∷ e ∷ es ∷ others) edit after parts = (cc)

-- and not before it, nor does the difference go twice
cut_while_read : AreAccepted model (Cut (99 ∷ []) ∷ Cut (102 ∷ []) ∷ []) → ⊥
unfolding after_edits
cut_while_read all = false≢true (all [] (Cut (99 ∷ [])) (Cut (102 ∷ []) ∷ []) refl)

cut_twice : AreAccepted model (Cut (102 ∷ []) ∷ Cut (102 ∷ []) ∷ []) → ⊥
unfolding after_edits
cut_twice all = false≢true (all (Cut (102 ∷ []) ∷ []) (Cut (102 ∷ [])) [] refl)

-- a name has the same bytes where a table keeps it and where it is lent
kept_bytes : key_bytes (keys.Kept (120 ∷ 99 ∷ [])) ≡ 120 ∷ 99 ∷ []
kept_bytes = refl

lent_bytes : key_bytes (keys.Lent (record { ref_ptr = (0, 0); now = 120 ∷ 99 ∷ [] })) ≡ 120 ∷ 99 ∷ []
lent_bytes = refl

-- operands that are lent keep their order
no_operand : args_seen args.Zero ≡ []
no_operand = refl

one_operand : args_seen (args.One (record { ref_ptr = (0, 0); now = 120 ∷ [] })) ≡ (120 ∷ []) ∷ []
one_operand = refl

two_operands : args_seen (args.Two (record { ref_ptr = (0, 0); now = 120 ∷ [] }) (record { ref_ptr = (0, 0); now = 99 ∷ [] }))
    ≡ (120 ∷ []) ∷ (99 ∷ []) ∷ []
two_operands = refl

-- an edit that is lent is the edit of the same kind, of the same names in the same order
set_seen : edit_seen (lent.Set (record { ref_ptr = (0, 0); now = 102 ∷ [] }) leaf) ≡ Set (102 ∷ []) leaf
set_seen = refl

add_seen : edit_seen (lent.Add (record { ref_ptr = (0, 0); now = 113 ∷ [] }) leaf) ≡ Add (113 ∷ []) leaf
add_seen = refl

put_seen : edit_seen (lent.Put (record { ref_ptr = (0, 0); now = 99 ∷ [] }) (record { ref_ptr = (0, 0); now = 103 ∷ [] }) leaf)
    ≡ Put (99 ∷ []) (103 ∷ []) leaf
put_seen = refl

cut_seen : edit_seen (lent.Cut (record { ref_ptr = (0, 0); now = 102 ∷ [] })) ≡ Cut (102 ∷ [])
cut_seen = refl

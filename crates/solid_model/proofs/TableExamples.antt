-- Tables of clauses, and what is allowed of them and said of them, worked out by hand.
use Rattle.std.proofs.Common.{◌≡◌, ◌<◌, ℕ, zero, suc, pos, List, [], ◌∷◌, length, Option, None, Some, false, true, Ok, Err, refl, arith}
use Rattle.std.specs.Rc.{rc_slice_items}
use Rattle.fixed_ops.specs.declared.operation.Op.TheVariants as ops
use Rattle.solid_model.specs.declared.change.Change.TheVariants.{Insert}
use Rattle.solid_model.specs.declared.clause.Clause.{Clause}
use Rattle.solid_model.specs.declared.clause_ref.ClauseRef.{ClauseRef}
use Rattle.solid_model.specs.declared.label.LabelBytes.TheVariants.{Long}
use Rattle.solid_model.specs.declared.row.Row.{Row}
use Rattle.solid_model.specs.Changes.{Allows}
use Rattle.solid_model.specs.Inverses.{form_under}
use Rattle.solid_model.specs.Labels.{label_bytes}
use Rattle.solid_model.specs.Refusals.{WantsMemoryFor}
use Rattle.solid_model.specs.Reversals.{form_at}
use Rattle.solid_model.specs.Seen.{clause_seen}
use Rattle.solid_model.specs.Tables.{AreFirstUsers, Kept, clauses_in, row_of}

-- ---- what a table keeps

abbrev leaf : Row
leaf = record { op = ops.Y; a = 0; b = 0; value = pos 0 }

-- the number 1 stands first and the number 0 behind it, with 1 as its first operand; the number 2 stands no more
abbrev kept : Kept
kept = record {
  order = record { numbers = 1 ∷ 0 ∷ 2 ∷ []; places = 1 ∷ 0 ∷ 2 ∷ [] };
  count = 2;
  rows = record { op = ops.Neg; a = 1; b = 0; value = pos 0 } ∷ leaf ∷ leaf ∷ [];
  names = (102 ∷ []) ∷ (121 ∷ []) ∷ (103 ∷ []) ∷ [];
}

clauses_that_stand : clauses_in kept ≡ record { name = 121 ∷ []; op = ops.Y; a = 0; b = 0; value = pos 0 }
    ∷ record { name = 102 ∷ []; op = ops.Neg; a = 0; b = 0; value = pos 0 } ∷ []
clauses_that_stand = refl

-- a number past the last has no operation, which is told as a coordinate
row_of_no_number : row_of (leaf ∷ []) 1 ≡ record { op = ops.X; a = 0; b = 0; value = pos 0 }
row_of_no_number = refl

-- of the rows y, x and -y the last is the first user of the number 0, and where none is a user none is told
abbrev rows : List Row
rows = leaf ∷ record leaf { op = ops.X } ∷ record { op = ops.Neg; a = 0; b = 0; value = pos 0 } ∷ []

right_user : AreFirstUsers rows (2 ∷ [])
right_user zero some = refl
right_user (suc number) some = absurd (omega (arith, some))

no_user : AreFirstUsers (leaf ∷ leaf ∷ []) (1 ∷ []) → ⊥
no_user are = let user : ◌≡◌ {A = Option ℕ} None (Some 1) = are 0 (omega arith) in (cc)

-- ---- the bytes of a name

long_name : (bytes : _) → rc_slice_items {X = ℕ} bytes ≡ 102 ∷ 120 ∷ [] → label_bytes (Long bytes) ≡ 102 ∷ 120 ∷ []
long_name bytes are = are

-- ---- a clause as it is shown

abbrev shown : ClauseRef
shown = record { name = record { ref_ptr = (0, 0); now = 102 ∷ [] }; op = ops.Sub; a = 5; b = 3; value = pos 7 }

operands_in_order : clause_seen shown ≡ record { name = 102 ∷ []; op = ops.Sub; a = 5; b = 3; value = pos 7 }
operands_in_order = refl

-- ---- what stands nowhere

form_of_no_clause : form_at [] 0 ≡ record { op = ops.X; a = 0; b = 0; value = pos 0 }
form_of_no_clause = refl

form_under_no_name : form_under [] (102 ∷ []) ≡ record { op = ops.X; args = []; value = pos 0 }
form_under_no_name = refl

-- ---- room

-- where 65535 clauses stand, none is put in
no_room : (clauses : List Clause) (clause : ClauseRef) → length clauses ≡ 65535 → Allows clauses (Insert 1 clause) → ⊥
no_room clauses clause full allows = let room : length clauses < 65535 = allows.1 in omega (arith, full, room)

-- ---- want of memory

-- where the meaning accepts memory may be wanted, and where it refuses only the fault of the meaning is told
memory_of_what_is_accepted : WantsMemoryFor {A = ℕ} {B = ℕ} {E = ℕ} (Ok 7) 5 (Err 5)
memory_of_what_is_accepted wanted = refl

memory_of_what_is_refused : WantsMemoryFor {A = ℕ} {B = ℕ} {E = ℕ} (Err 3) 5 (Err 5) → ⊥
memory_of_what_is_refused wants = let accepted : false ≡ true = wants refl in (cc)

-- What tokens say before their names are looked up, and where a token stands, worked out by hand.
use Rattle.std.proofs.Common.{◌≡◌, ℕ, nat_le, List, [], ◌∷◌, ◌++◌, length, None, Some, Ok, Err, true, false, refl, arith}
use Rattle.std.specs.Borrow.{Bor}
use Rattle.std.specs.Prelude.{codes, map, pos}
use Rattle.std.proofs.lemmas.List.Sums.{AllPass-from_list_all}
use Rattle.fixed_ops.specs.declared.operation.Op.TheVariants.{X, Const, Sub}
use Rattle.fixed_ops.specs.Numerals.{is_unsigned_numeral}
use Rattle.solid_model.specs.Clauses.{place_of}
use Rattle.solid_model.specs.declared.clause.Clause.{Clause}
use Rattle.solid_model.specs.declared.push_fault.PushFault.TheVariants as push
use Rattle.solid_model.specs.Names.{is_blank}
use Rattle.solid_model.specs.Parts.{Parts}
use Rattle.clause_reader.specs.declared.form_defect.FormDefect.TheVariants.{NoOperation, UnknownOperation, WrongArity, BadNumeral}
use Rattle.clause_reader.specs.declared.form_fault.FormFault.TheVariants as form
use Rattle.clause_reader.specs.declared.read_error.ReadError.TheVariants.{Memory, Defect}
use Rattle.clause_reader.specs.declared.text_reason.TextReason.TheVariants as text
use Rattle.clause_reader.specs.declared.operands.Operands.TheVariants.{Zero, One, Two}
use Rattle.clause_reader.specs.declared.written_form.WrittenForm.{WrittenForm}
use Rattle.clause_reader.specs.Forms.{with_arguments, with_names}
use Rattle.clause_reader.specs.Gives.{made}
use Rattle.clause_reader.specs.Tokens.{IsTokenAt}
use Rattle.clause_reader.specs.Written.{as_error, as_fault, as_reason, extended, names_in, parts_in}
use Rattle.clause_reader.proofs.WrittenLemmas.{named}

defects_of_forms : map as_fault
    (Defect NoOperation ∷ Defect UnknownOperation ∷ Defect WrongArity ∷ Defect BadNumeral ∷ Memory ∷ [])
    ≡ form.NoOperation ∷ form.UnknownOperation ∷ form.WrongArity ∷ form.BadNumeral ∷ form.NoMemory ∷ []
defects_of_forms = refl

defects_of_lines : map as_reason (NoOperation ∷ UnknownOperation ∷ WrongArity ∷ BadNumeral ∷ [])
    ≡ text.NoOperation ∷ text.UnknownOperation ∷ text.WrongArity ∷ text.BadNumeral ∷ []
defects_of_lines = refl

clauses_that_do_not_go_last : map as_error (push.DoubleName ∷ push.Full ∷ push.NoMemory ∷ [])
    ≡ Defect text.DoubleName ∷ Defect text.TooMany ∷ Memory ∷ []
clauses_that_do_not_go_last = refl

-- an operation without a number
abbrev said : List (List ℕ) → Parts
said args = record { op = Sub; args = args; value = pos 0 }

two_operands : with_arguments Sub (codes "x" ∷ codes "1" ∷ []) ≡ Ok (said (codes "x" ∷ codes "1" ∷ []))
two_operands = refl

one_operand_of_two : with_arguments Sub (codes "x" ∷ []) ≡ Err WrongArity
one_operand_of_two = refl

no_numeral : with_arguments Const (codes "x" ∷ []) ≡ Err BadNumeral
unfolding is_unsigned_numeral
no_numeral = refl

-- one operand that begins a comment is enough
names_of_a_form : map (λ args. with_names (Ok (said args)))
    ((codes "x" ∷ codes "#y" ∷ []) ∷ (codes "x#" ∷ codes "y" ∷ []) ∷ [])
    ≡ Ok None ∷ Ok (Some (said (codes "x#" ∷ codes "y" ∷ []))) ∷ []
names_of_a_form = refl

-- which is told as a fault
faults_of_a_form : map named (Ok None ∷ Err WrongArity ∷ []) ≡ Err form.BadName ∷ Err form.WrongArity ∷ []
faults_of_a_form = refl

-- a form has its operation, its operands in their order, and its number
parts_of_two : (written : WrittenForm) (x y : Bor (List ℕ)) → written.op ≡ Sub → written.operands ≡ Two x y
    → written.value ≡ pos 7 → x.now ≡ codes "x" → y.now ≡ codes "y"
    → parts_in written ≡ record { op = Sub; args = codes "x" ∷ codes "y" ∷ []; value = pos 7 }
parts_of_two written x y op operands value first second = rw (op, operands, value, first, second) refl

one_name : (x : Bor (List ℕ)) → x.now ≡ codes "x" → names_in (One x) ≡ codes "x" ∷ []
one_name x is = rw is refl

no_name : names_in Zero ≡ []
no_name = refl

-- what is there after a change that was made, or why none was
change_made : made {A = ℕ} {T = ℕ} {E = ℕ} 7 (Ok 3) ≡ Ok 7
change_made = refl

change_refused : made {A = ℕ} {T = ℕ} {E = ℕ} 7 (Err 3) ≡ Err 3
change_refused = refl

-- the column of x, under the name q
abbrev column : Clause
column = record { name = codes "q"; op = X; a = 0; b = 0; value = pos 0 }

too_many : (clauses : List Clause) → place_of clauses (codes "q") ≡ None
    → nat_le 65535 (length clauses) ≡ true
    → extended clauses (codes "q") (Ok (record { op = X; args = []; value = pos 0 })) ≡ Err text.TooMany
too_many clauses new full = rw (new, full) refl

room_left : (clauses : List Clause) → place_of clauses (codes "q") ≡ None
    → nat_le 65535 (length clauses) ≡ false
    → extended clauses (codes "q") (Ok (record { op = X; args = []; value = pos 0 }))
    ≡ Ok (clauses ++ column ∷ [])
room_left clauses new room = rw (new, room) refl

-- a token may stand right at the place, and reach to the end
abbrev bytes : List ℕ
bytes = codes "ab  cd e"

token_at_the_place : IsTokenAt bytes 4 4 6
token_at_the_place = record {
  after = omega arith;
  some = omega arith;
  within = omega arith;
  gap = AllPass-from_list_all is_blank [] refl;
  token = refl;
  longest = refl;
}

token_to_the_end : IsTokenAt bytes 6 7 8
token_to_the_end = record {
  after = omega arith;
  some = omega arith;
  within = omega arith;
  gap = AllPass-from_list_all is_blank (codes " ") refl;
  token = refl;
  longest = tt;
}

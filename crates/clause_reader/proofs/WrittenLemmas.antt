-- What a line says is what its operation and arguments say, before and after names are looked up.
use Rattle.std.proofs.Common.{Bool, Err, IfOk, IsOk, List, None, Ok, Option, Result, Some, [], ap, eqb, false, length, not, refl, true, ℕ, ◌∙◌, ◌∷◌, ◌≡◌, ◌≢◌}
use Rattle.std.specs.List.{list_any}
use Rattle.std.specs.Option.{ok_or}
use Rattle.fixed_ops.specs.declared.operation.Op.{Op}
use Rattle.solid_model.specs.declared.clause.Clause.{Clause}
use Rattle.solid_model.specs.Parts.{Parts}
use Rattle.clause_reader.specs.declared.form_defect.FormDefect.{FormDefect}
use Rattle.clause_reader.specs.declared.form_defect.FormDefect.TheVariants.{NoOperation, UnknownOperation, WrongArity, BadNumeral}
use Rattle.clause_reader.specs.declared.form_fault.FormFault.TheVariants.{BadName, NoMemory}
use Rattle.clause_reader.specs.declared.read_error.ReadError.{ReadError}
use Rattle.clause_reader.specs.declared.read_error.ReadError.TheVariants.{Memory, Defect}
use Rattle.clause_reader.specs.Forms.{operation_of, takes, operands, numerals, is_no_numeral, parts_written, unless_comment, with_names, form_said, form_read, GivesForm, HasOperands}
use Rattle.clause_reader.specs.Gives.{Gives}
use Rattle.clause_reader.specs.Lines.{begins_comment}
use Rattle.clause_reader.specs.Reading.{clauses_with}
use Rattle.clause_reader.specs.Written.{as_fault, extended}
use Rattle.clause_reader.specs.declared.form_fault.FormFault.{FormFault}

-- a form from what its tokens say as one
abbrev pub named : Result (Option Parts) FormDefect → Result Parts FormFault
named (Ok (Some parts)) = Ok parts
named (Ok None) = Err BadName
named (Err defect) = Err (as_fault (Defect defect))

-- a form is what its tokens say
pub form_read-named : (tokens : List (List ℕ)) → form_read tokens ≡ named (form_said tokens)
form_read-named [] = refl
form_read-named (word ∷ args) = by (operation_of word) refl
  where
    by : (o : Option Op) → operation_of word ≡ o → form_read (word ∷ args) ≡ named (form_said (word ∷ args))
    by None e = rw e refl
    by (Some op) e =
        at (not (eqb (length args) (takes op))) (list_any is_no_numeral (numerals op args)) (list_any begins_comment (operands op args)) refl refl refl
      where
        at : (arity number comment : Bool) → not (eqb (length args) (takes op)) ≡ arity → list_any is_no_numeral (numerals op args) ≡ number
            → list_any begins_comment (operands op args) ≡ comment → form_read (word ∷ args) ≡ named (form_said (word ∷ args))
        at true number comment a n b = rw (e, a) refl
        at false true comment a n b = rw (e, a, n) refl
        at false false true a n b = rw (e, a, n, b) refl
        at false false false a n b = rw (e, a, n, b) refl

-- a clause line is what its tokens say
pub clauses_with-written : (clauses : List Clause) (name : List ℕ) (tokens : List (List ℕ)) → clauses_with clauses (name ∷ tokens) ≡ extended clauses name (parts_written tokens)
clauses_with-written clauses name [] = refl
clauses_with-written clauses name (word ∷ args) = by (operation_of word) refl
  where
    by : (o : Option Op) → operation_of word ≡ o → clauses_with clauses (name ∷ word ∷ args) ≡ extended clauses name (parts_written (word ∷ args))
    by None e = rw e refl
    by (Some op) e = at (not (eqb (length args) (takes op))) (list_any is_no_numeral (numerals op args)) refl refl
      where
        at : (arity number : Bool) → not (eqb (length args) (takes op)) ≡ arity → list_any is_no_numeral (numerals op args) ≡ number
            → clauses_with clauses (name ∷ word ∷ args) ≡ extended clauses name (parts_written (word ∷ args))
        at true number a n = rw (e, a) refl
        at false true a n = rw (e, a, n) refl
        at false false a n = rw (e, a, n) refl

-- a form that is found, or none
pub read-found : (tokens : List (List ℕ)) (found : Option Parts) → form_said tokens ≡ Ok found → form_read tokens ≡ named (Ok found)
read-found tokens found e = form_read-named tokens ∙ ap named e

pub gives-found : (tokens : List (List ℕ)) (found : Option Parts) → form_said tokens ≡ Ok found → GivesForm tokens (ok_or found BadName)
gives-found tokens (Some form) e = read-found tokens (Some form) e
gives-found tokens None e = (λ other. read-found tokens None e, λ same. (cc))

pub found-memory : (found : Option Parts) → ok_or found BadName ≡ Err NoMemory → ⊥
found-memory (Some form) e = (cc)
found-memory None e = (cc)

-- memory is refused for the operands that the form has, and so it is read
pub has-operands : (tokens : List (List ℕ)) (parts : Parts) → parts_written tokens ≡ Ok parts → unless_comment parts ≡ Some parts → parts.args ≢ [] → HasOperands tokens
has-operands tokens parts e named some = record { form = parts; said = ap with_names e ∙ ap Ok named; some = some }

pub said-ok : (tokens : List (List ℕ)) (parts : Parts) → parts_written tokens ≡ Ok parts → IsOk (form_said tokens)
said-ok tokens parts e = rw e refl

read-operands : (tokens : List (List ℕ)) (has : HasOperands tokens) → form_read tokens ≡ Ok has.form
read-operands tokens has = read-found tokens (Some has.form) has.said

pub names-read : (tokens : List (List ℕ)) → HasOperands tokens → IfOk (form_read tokens) (λ form. form.args ≢ [])
names-read tokens has = rw (read-operands tokens has) has.some

-- only want of memory is told as such
pub told-memory : (error : ReadError FormDefect) → as_fault error ≡ NoMemory → error ≡ Memory
told-memory Memory e = refl
told-memory (Defect NoOperation) e = (cc)
told-memory (Defect UnknownOperation) e = (cc)
told-memory (Defect WrongArity) e = (cc)
told-memory (Defect BadNumeral) e = (cc)

-- the fault of a form, from its defect or want of memory
pub gives-fault : (tokens : List (List ℕ)) (error : ReadError FormDefect) → Gives (form_said tokens) (Err error) → (error ≡ Memory → HasOperands tokens)
    → GivesForm tokens (Err (as_fault error))
gives-fault tokens Memory said has = (λ other. absurd (other refl), λ same. rw (read-operands tokens (has refl)) refl)
gives-fault tokens (Defect defect) said has =
    (λ other. form_read-named tokens ∙ ap named said, λ same. let memory : Defect defect ≡ Memory = told-memory (Defect defect) same in (cc))

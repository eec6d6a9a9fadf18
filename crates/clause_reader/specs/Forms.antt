-- What an operation and its arguments say, as tokens.
use Rattle.std.specs.Prelude.{◌≡◌, ◌≢◌, ℕ, ◌==◌, ℤ, pos, Bool, not, List, [], ◌∷◌, length, Option, Some, None, is_none, Result, Ok, Err, IsOk, if◌then◌else◌}
use Rattle.std.specs.List.{find, list_any}
use Rattle.std.specs.Option.{unwrap_or}
use Rattle.std.specs.Str.{bytes_eq}
use Rattle.fixed_ops.specs.declared.operation.Op.{Op}
use Rattle.fixed_ops.specs.declared.operation.Op.TheVariants.{X, Y, Z, Const, Neg, Square, Sqrt, Abs, Floor, Add, Sub, Mul, Div, Min, Max}
use Rattle.fixed_ops.specs.Arity.{arity_of}
use Rattle.fixed_ops.specs.Numerals.{numeral}
use Rattle.fixed_ops.specs.OpNames.{name_of}
use Rattle.solid_model.specs.Parts.{Parts}
use Rattle.clause_reader.specs.declared.form_defect.FormDefect.{FormDefect}
use Rattle.clause_reader.specs.declared.form_defect.FormDefect.TheVariants as defects
use Rattle.clause_reader.specs.declared.form_fault.FormFault.{FormFault}
use Rattle.clause_reader.specs.declared.form_fault.FormFault.TheVariants.{NoOperation, UnknownOperation, WrongArity, BadNumeral, BadName, NoMemory}
use Rattle.clause_reader.specs.Lines.{begins_comment}

-- all operations
abbrev pub operations : List Op
operations =
    X ∷ Y ∷ Z ∷ Const ∷ Neg ∷ Square ∷ Sqrt ∷ Abs ∷ Floor ∷ Add ∷ Sub ∷ Mul ∷ Div ∷ Min ∷ Max ∷ []

-- the operation that a word names
abbrev pub operation_of : List ℕ → Option Op
operation_of word = find (λ op. bytes_eq word (name_of op)) operations

-- how many arguments an operation takes in a text: its operands, or the numeral of a constant
abbrev pub takes : Op → ℕ
takes Const = 1
takes op = arity_of op

-- the arguments that are names of operands
abbrev pub operands : Op → List (List ℕ) → List (List ℕ)
operands Const args = []
operands op args = args

-- the arguments that are numerals
abbrev pub numerals : Op → List (List ℕ) → List (List ℕ)
numerals Const args = args
numerals op args = []

-- a token that is no numeral
abbrev pub is_no_numeral : List ℕ → Bool
is_no_numeral token = is_none (numeral token)

-- the number of a constant, and 0 where there is none
abbrev pub number_of : List (List ℕ) → ℤ
number_of [] = pos 0
number_of (token ∷ others) = unwrap_or (numeral token) (pos 0)

-- an operation with its operands by name and its number
abbrev pub parts_of : Op → List (List ℕ) → Parts
parts_of op args = record { op = op; args = operands op args; value = number_of (numerals op args) }

-- an operation with arguments, or the first of their defects
abbrev pub with_arguments : Op → List (List ℕ) → Result Parts FormDefect
with_arguments op args =
    if not (length args == takes op) then Err defects.WrongArity
    else if list_any is_no_numeral (numerals op args) then Err defects.BadNumeral
    else Ok (parts_of op args)

-- what tokens say, or the first of the defects that need no look-up of a name
abbrev pub parts_written : List (List ℕ) → Result Parts FormDefect
parts_written [] = Err defects.NoOperation
parts_written (word ∷ args) = on_operation (operation_of word)
  where
    on_operation : Option Op → Result Parts FormDefect
    on_operation None = Err defects.UnknownOperation
    on_operation (Some op) = with_arguments op args

-- a form, or none where an operand begins a comment
abbrev pub unless_comment : Parts → Option Parts
unless_comment parts = if list_any begins_comment parts.args then None else Some parts

-- what is written as a form, or none where an operand begins a comment
abbrev pub with_names : Result Parts FormDefect → Result (Option Parts) FormDefect
with_names (Ok parts) = Ok (unless_comment parts)
with_names (Err defect) = Err defect

-- what tokens say as a form, or none where an operand begins a comment, or the first of the defects
abbrev pub form_said : List (List ℕ) → Result (Option Parts) FormDefect
form_said tokens = with_names (parts_written tokens)

-- tokens say a form with operands, none of which begins a comment
pub record HasOperands (tokens : List (List ℕ)) : Type 0 where
  pub form : Parts
  pub said : form_said tokens ≡ Ok (Some form)
  pub some : form.args ≢ []

-- The form that tokens say, or the first fault that they have, in this order: no operation stands
-- there, the word names none, its arguments are not as many as it takes, a constant's is no
-- numeral, an operand begins a comment.
abbrev pub form_read : List (List ℕ) → Result Parts FormFault
form_read [] = Err NoOperation
form_read (word ∷ args) = on_operation (operation_of word)
  where
    on_operation : Option Op → Result Parts FormFault
    on_operation None = Err UnknownOperation
    on_operation (Some op) =
        if not (length args == takes op) then Err WrongArity
        else if list_any is_no_numeral (numerals op args) then Err BadNumeral
        else if list_any begins_comment (operands op args) then Err BadName
        else Ok (parts_of op args)

-- what reading a form gives: the form that its tokens say, or the very fault that they have, or
-- want of memory for the form that they say
abbrev pub GivesForm : List (List ℕ) → Result Parts FormFault → Type 0
GivesForm tokens (Ok form) = form_read tokens ≡ Ok form
GivesForm tokens (Err fault) =
    (fault ≢ NoMemory → form_read tokens ≡ Err fault) × (fault ≡ NoMemory → IsOk (form_read tokens))

-- Where each reason against a clause line holds, whichever others hold there too.
use Rattle.std.specs.Prelude.{◌≡◌, ℕ, ◌==◌, Bool, false, not, nat_le, List, [], ◌∷◌, length, find, Option, Some, None, is_none, is_some, Result, Ok, Err}
use Rattle.std.specs.List.{list_any}
use Rattle.std.specs.Option.{option_map_or}
use Rattle.fixed_ops.specs.declared.operation.Op.{Op}
use Rattle.solid_model.specs.declared.clause.Clause.{Clause}
use Rattle.solid_model.specs.Clauses.{place_of}
use Rattle.clause_reader.specs.declared.text_reason.TextReason.{TextReason}
use Rattle.clause_reader.specs.declared.text_reason.TextReason.TheVariants.{NoOperation, UnknownOperation, WrongArity, BadNumeral, UnknownName, DoubleName, TooMany}
use Rattle.clause_reader.specs.Forms.{operation_of, takes, operands, numerals, is_no_numeral}
use Rattle.clause_reader.specs.Reading.{clauses_with, has_unknown}

-- the word behind the name names no operation
abbrev pub is_unknown : List (List ℕ) → Bool
is_unknown (name ∷ word ∷ args) = is_none (operation_of word)
is_unknown tokens = false

-- a test of the operation of a line and its arguments, where there is one
abbrev pub of_operation : (Op → List (List ℕ) → Bool) → List (List ℕ) → Bool
of_operation test (name ∷ word ∷ args) =
    option_map_or (λ op. test op args) (operation_of word) false
of_operation test tokens = false

-- the name of a line is that of a clause
abbrev pub stands_already : List Clause → List (List ℕ) → Bool
stands_already clauses [] = false
stands_already clauses (name ∷ others) = is_some (place_of clauses name)

-- a reason holds in the tokens of a clause line that comes after these clauses
abbrev pub holds : List Clause → List (List ℕ) → TextReason → Bool
holds clauses tokens NoOperation = nat_le (length tokens) 1
holds clauses tokens UnknownOperation = is_unknown tokens
holds clauses tokens WrongArity = of_operation (λ op args. not (length args == takes op)) tokens
holds clauses tokens BadNumeral =
    of_operation (λ op args. list_any is_no_numeral (numerals op args)) tokens
holds clauses tokens UnknownName =
    of_operation (λ op args. has_unknown clauses (operands op args)) tokens
holds clauses tokens DoubleName = stands_already clauses tokens
holds clauses tokens TooMany = nat_le 65535 (length clauses)
holds clauses tokens reason = false

-- the reasons against a clause line, the lowest first
abbrev pub reasons : List TextReason
reasons =
    NoOperation ∷ UnknownOperation ∷ WrongArity ∷ BadNumeral ∷ UnknownName ∷ DoubleName ∷ TooMany ∷ []

-- the reason for which a line is refused
abbrev pub reason_in : Result (List Clause) TextReason → Option TextReason
reason_in (Ok clauses) = None
reason_in (Err reason) = Some reason

-- a clause line is refused for the lowest reason that holds in it, and says a clause where none does
abbrev pub LineReasonsAreLowest : Type 0
LineReasonsAreLowest =
    (clauses : List Clause) (tokens : List (List ℕ))
    → reason_in (clauses_with clauses tokens) ≡ find (λ reason. holds clauses tokens reason) reasons

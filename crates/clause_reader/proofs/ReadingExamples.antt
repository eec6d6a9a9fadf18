-- The definitions of reading, computed on texts that were worked out by hand: each reason once, and what is read.
use Rattle.std.proofs.Common.{◌≡◌, ℕ, Bool, pos, nat_le, List, [], ◌∷◌, ◌++◌, length, None, Some, Result, Ok, Err, true, false, refl, ap, arith}
use Rattle.std.specs.Prelude.{All, codes, map, negsuc}
use Rattle.std.proofs.lemmas.List.Elements.{All-head}
use Rattle.std.proofs.lemmas.List.Sums.{AllPass-from_list_all}
use Rattle.fixed_ops.specs.declared.operation.Op.TheVariants.{X, Y, Z, Const, Neg, Square, Sqrt, Abs, Floor, Add, Sub, Mul, Div, Min, Max}
use Rattle.fixed_ops.specs.Numerals.{is_unsigned_numeral, unsigned_raw, nearest_raw, cut_magnitude}
use Rattle.solid_model.specs.declared.clause.Clause.{Clause}
use Rattle.solid_model.specs.Clauses.{IsModel, place_of}
use Rattle.solid_model.specs.Names.{is_blank}
use Rattle.solid_model.specs.Parts.{IsForm}
use Rattle.clause_reader.specs.declared.form_fault.FormFault.TheVariants.{BadName, WrongArity as FormWrongArity, NoMemory as FormNoMemory}
use Rattle.clause_reader.specs.declared.text_fault.TextFault.{TextFault}
use Rattle.clause_reader.specs.declared.text_reason.TextReason.TheVariants.{NoOperation, UnknownOperation, WrongArity, BadNumeral, UnknownName, DoubleName, TooMany, Empty, NoMemory}
use Rattle.clause_reader.specs.Forms.{form_read, GivesForm, operation_of, operations, takes}
use Rattle.clause_reader.specs.Lines.{begins_comment, lines_of, tokens_of, line_of}
use Rattle.clause_reader.specs.ReadModels.{MayName}
use Rattle.clause_reader.specs.Reading.{clauses_with, clause_of, text_read, GivesModel, MayWantMemory}
use Rattle.clause_reader.specs.Reasons.{holds}
use Rattle.clause_reader.specs.Says.{clause_lines}
use Rattle.clause_reader.specs.Scan.{after_line, line_tokens}
use Rattle.clause_reader.specs.Tokens.{IsTokenAt}
use Rattle.clause_reader.proofs.ReadModels.{read-texts-are-models, said-forms-are-forms, tokens-may-name}

-- blank lines and comments say nothing, names become places, and the last line may lack its line feed
three_clauses : text_read (codes "# c\n\nx var-x\n r\tconst -1 \nd sub r x")
    ≡ Ok (record { name = codes "x"; op = X; a = 0; b = 0; value = pos 0 }
    ∷ record { name = codes "r"; op = Const; a = 0; b = 0; value = negsuc 4294967295 }
    ∷ record { name = codes "d"; op = Sub; a = 1; b = 0; value = pos 0 } ∷ [])
unfolding is_unsigned_numeral unsigned_raw nearest_raw cut_magnitude
three_clauses = refl

no_operation : text_read (codes "x var-x\n\n y \nz") ≡ Err (record { line = 3; reason = NoOperation })
no_operation = refl

unknown_operation : text_read (codes "x var-X y") ≡ Err (record { line = 1; reason = UnknownOperation })
unknown_operation = refl

-- two arguments, of which neither is a numeral
wrong_arity : text_read (codes "a const x y") ≡ Err (record { line = 1; reason = WrongArity })
wrong_arity = refl

bad_numeral : text_read (codes "a const x") ≡ Err (record { line = 1; reason = BadNumeral })
unfolding is_unsigned_numeral
bad_numeral = refl

-- a clause that stands later
later_clause : text_read (codes "x neg y\ny var-y") ≡ Err (record { line = 1; reason = UnknownName })
later_clause = refl

-- a clause that would name itself, although its name stands already where another is meant
unknown_before_double : text_read (codes "x var-x\nx neg y") ≡ Err (record { line = 2; reason = UnknownName })
unknown_before_double = refl

operand_begins_comment : text_read (codes "x var-x\ny neg #x") ≡ Err (record { line = 2; reason = UnknownName })
operand_begins_comment = refl

double_name : text_read (codes "x var-x\nx var-y") ≡ Err (record { line = 2; reason = DoubleName })
double_name = refl

empty : text_read (codes "# x var-x\n \t\r\n") ≡ Err (record { line = 0; reason = Empty })
empty = refl

-- at the limit a line of a new name is one too many
too_many : (clauses : List Clause) → place_of clauses (codes "q") ≡ None → nat_le 65535 (length clauses) ≡ true
    → clauses_with clauses (codes "q" ∷ codes "var-x" ∷ []) ≡ Err TooMany
too_many clauses new full = rw (new, full) refl

-- a name that stands is told before that
double_name_at_the_limit : (clauses : List Clause) → place_of clauses (codes "q") ≡ Some 3
    → clauses_with clauses (codes "q" ∷ codes "var-x" ∷ []) ≡ Err DoubleName
double_name_at_the_limit clauses stands = rw stands refl

-- and below it such a line is read
room_left : (clauses : List Clause) → place_of clauses (codes "q") ≡ None → nat_le 65535 (length clauses) ≡ false
    → clauses_with clauses (codes "q" ∷ codes "var-x" ∷ []) ≡ Ok (clauses ++ clause_of clauses (codes "q") X [] ∷ [])
room_left clauses new room = rw (new, room) refl

-- memory may be wanted on the line of a clause, and neither on a comment nor on line 0
abbrev clause_after_a_comment : List ℕ
clause_after_a_comment = codes "# c\nx var-x\ny var-x x\n"

memory_on_a_clause : MayWantMemory clause_after_a_comment 2
memory_on_a_clause = record { numbered = omega arith; says = refl; good = refl }

no_memory_on_a_comment : MayWantMemory clause_after_a_comment 1 → ⊥
no_memory_on_a_comment wants = let says : false ≡ true = wants.says in (cc)

no_memory_on_line_0 : MayWantMemory (codes "x var-x\n") 0 → ⊥
no_memory_on_line_0 wants = absurd (omega (arith, wants.numbered))

-- nor on a line that is refused
no_memory_on_a_refused_line : MayWantMemory clause_after_a_comment 3 → ⊥
no_memory_on_a_refused_line wants = let good : false ≡ true = wants.good in (cc)

bad_name : form_read (codes "neg" ∷ codes "#x" ∷ []) ≡ Err BadName
bad_name = refl

form : form_read (codes "neg" ∷ codes "x#" ∷ []) ≡ Ok (record { op = Neg; args = codes "x#" ∷ []; value = pos 0 })
form = refl

-- lines and tokens
lines_with_an_empty_one : lines_of (codes "a\n\nb") ≡ codes "a" ∷ [] ∷ codes "b" ∷ []
lines_with_an_empty_one = refl

final_feed_begins_no_line : lines_of (codes "a\n") ≡ codes "a" ∷ []
final_feed_begins_no_line = refl

blanks_part_tokens : tokens_of (32 ∷ 97 ∷ 35 ∷ 9 ∷ 13 ∷ 98 ∷ 13 ∷ []) ≡ codes "a#" ∷ codes "b" ∷ []
blanks_part_tokens = refl

line_ends_before_the_feed : line_of (codes "a b\nc") ≡ codes "a b"
line_ends_before_the_feed = refl

-- an argument too many is told before a bad numeral
form_of_too_many : form_read (codes "const" ∷ codes "x" ∷ codes "y" ∷ []) ≡ Err FormWrongArity
form_of_too_many = refl

-- a constant has a number and no operands
form_of_constant : form_read (codes "const" ∷ codes "-1" ∷ [])
    ≡ Ok (record { op = Const; args = []; value = negsuc 4294967295 })
unfolding is_unsigned_numeral unsigned_raw nearest_raw cut_magnitude
form_of_constant = refl

-- an operand that is a numeral is a name all the same
form_of_numeral : form_read (codes "neg" ∷ codes "1" ∷ []) ≡ Ok (record { op = Neg; args = codes "1" ∷ []; value = pos 0 })
form_of_numeral = refl

-- reading gives the very form and the very fault, and wants memory for what is accepted alone
abbrev neg_of : List ℕ → List (List ℕ)
neg_of name = codes "neg" ∷ name ∷ []

form_with_a_bad_name : GivesForm (neg_of (codes "#x")) (Ok (record { op = Neg; args = codes "#x" ∷ []; value = pos 0 }))
    → ⊥
form_with_a_bad_name gives = cc

other_fault : GivesForm (neg_of (codes "#x")) (Err FormWrongArity) → ⊥
other_fault gives = let fault = gives.0 (λ e. cc) in (cc)

memory_for_a_form : GivesForm (neg_of (codes "x")) (Err FormNoMemory)
memory_for_a_form = (λ differs. absurd (differs refl), λ e. refl)

no_memory_for_a_bad_name : GivesForm (neg_of (codes "#x")) (Err FormNoMemory) → ⊥
no_memory_for_a_bad_name gives = let accepted : false ≡ true = gives.1 refl in (cc)

-- and so with a model
other_model : GivesModel (codes "x var-x") (Ok []) → ⊥
other_model gives = cc

abbrev line_told : Result (List Clause) TextFault → ℕ
line_told (Ok clauses) = 0
line_told (Err fault) = fault.line

other_line : GivesModel (codes "x var-x y") (Err (record { line = 2; reason = WrongArity })) → ⊥
other_line gives = by (ap line_told (gives.0 (λ e. cc)))
  where
    by : ◌≡◌ {A = ℕ} 1 2 → ⊥
    by lines = omega (arith, lines)

memory_for_a_model : GivesModel (codes "x var-x") (Err (record { line = 1; reason = NoMemory }))
memory_for_a_model =
    (λ differs. absurd (differs refl), λ e. record { numbered = omega arith; says = refl; good = refl })

no_memory_for_a_refusal : GivesModel (codes "x var-x y") (Err (record { line = 1; reason = NoMemory })) → ⊥
no_memory_for_a_refusal gives = let good : false ≡ true = (gives.1 refl).good in (cc)

-- an unknown name is told at the limit too
unknown_at_the_limit : (clauses : List Clause) → place_of clauses (codes "y") ≡ None
    → clauses_with clauses (codes "q" ∷ codes "neg" ∷ codes "y" ∷ []) ≡ Err UnknownName
unknown_at_the_limit clauses unknown = rw unknown refl

-- the tokens of the first line alone
tokens_of_the_first_line : line_tokens (codes " a\tb\nc") ≡ codes "a" ∷ codes "b" ∷ []
tokens_of_the_first_line = refl

-- ---- where a token stands: from place 2 on, after two blanks, up to the next blank
abbrev some_tokens : List ℕ
some_tokens = codes "ab  cd e"

token_after_blanks : IsTokenAt some_tokens 2 4 6
token_after_blanks = record {
  after = omega arith;
  some = omega arith;
  within = omega arith;
  gap = AllPass-from_list_all is_blank (codes "  ") refl;
  token = refl;
  longest = refl;
}

-- a token that begins before the place, blanks, a part of a token and two of them are no token there
token_before : IsTokenAt some_tokens 5 4 6 → ⊥
token_before is = omega (arith, is.after)

token_without_bytes : IsTokenAt some_tokens 2 4 4 → ⊥
token_without_bytes is = omega (arith, is.some)

token_behind_the_end : IsTokenAt some_tokens 7 7 9 → ⊥
token_behind_the_end is = omega (arith, is.within)

token_after_another : IsTokenAt some_tokens 1 4 6 → ⊥
token_after_another is = let blank : false ≡ true = All-head (λ byte. is_blank byte ≡ true) 98 (codes "  ") is.gap in (cc)

two_tokens_are_not_one : IsTokenAt some_tokens 2 4 8 → ⊥
two_tokens_are_not_one is = let token : false ≡ true = is.token in (cc)

token_is_not_cut : IsTokenAt some_tokens 2 4 5 → ⊥
token_is_not_cut is = let ends : true ≡ false = is.longest in (cc)

-- the operations, by their words and by how many arguments they take
each_operation_is_read : map operation_of
    (codes "var-x" ∷ codes "var-y" ∷ codes "var-z" ∷ codes "const" ∷ codes "neg" ∷ codes "square"
    ∷ codes "sqrt" ∷ codes "abs" ∷ codes "floor" ∷ codes "add" ∷ codes "sub" ∷ codes "mul" ∷ codes "div"
    ∷ codes "min" ∷ codes "max" ∷ codes "mod" ∷ [])
    ≡ Some X ∷ Some Y ∷ Some Z ∷ Some Const ∷ Some Neg ∷ Some Square ∷ Some Sqrt ∷ Some Abs ∷ Some Floor
    ∷ Some Add ∷ Some Sub ∷ Some Mul ∷ Some Div ∷ Some Min ∷ Some Max ∷ None ∷ []
each_operation_is_read = refl

arguments_of_each : map takes operations ≡ 0 ∷ 0 ∷ 0 ∷ 1 ∷ 1 ∷ 1 ∷ 1 ∷ 1 ∷ 1 ∷ 2 ∷ 2 ∷ 2 ∷ 2 ∷ 2 ∷ 2 ∷ []
arguments_of_each = refl

-- the reasons that hold in a line after a clause q
abbrev clause_q : List Clause
clause_q = record { name = codes "q"; op = X; a = 0; b = 0; value = pos 0 } ∷ []

abbrev holding : List ℕ → List Bool
holding line = map (λ reason. holds clause_q (tokens_of line) reason)
    (NoOperation ∷ UnknownOperation ∷ WrongArity ∷ BadNumeral ∷ UnknownName ∷ DoubleName ∷ TooMany
    ∷ Empty ∷ NoMemory ∷ [])

-- where no operation stands, or the word names none, nothing is told of its arguments
lines_without_operation : map holding ([] ∷ codes "q" ∷ codes "q mod y" ∷ [])
    ≡ (true ∷ false ∷ false ∷ false ∷ false ∷ false ∷ false ∷ false ∷ false ∷ [])
    ∷ (true ∷ false ∷ false ∷ false ∷ false ∷ true ∷ false ∷ false ∷ false ∷ [])
    ∷ (false ∷ true ∷ false ∷ false ∷ false ∷ true ∷ false ∷ false ∷ false ∷ []) ∷ []
lines_without_operation = refl

-- and each other reason holds whichever else does
lines_with_some_reasons : map holding (codes "q neg x y" ∷ codes "q const x y" ∷ codes "p sub q q" ∷ [])
    ≡ (false ∷ false ∷ true ∷ false ∷ true ∷ true ∷ false ∷ false ∷ false ∷ [])
    ∷ (false ∷ false ∷ true ∷ true ∷ false ∷ true ∷ false ∷ false ∷ false ∷ [])
    ∷ (false ∷ false ∷ false ∷ false ∷ false ∷ false ∷ false ∷ false ∷ false ∷ []) ∷ []
unfolding is_unsigned_numeral
lines_with_some_reasons = refl

comments : map begins_comment ([] ∷ codes "#" ∷ codes "#a" ∷ codes "a#" ∷ [])
    ≡ false ∷ true ∷ true ∷ false ∷ []
comments = refl

-- a line is counted where it says nothing, too
lines_that_say_a_clause : clause_lines (codes "# c\nx var-x\n\n y neg\tx")
    ≡ (2, codes "x" ∷ codes "var-x" ∷ []) ∷ (4, codes "y" ∷ codes "neg" ∷ codes "x" ∷ []) ∷ []
lines_that_say_a_clause = refl

rest_after_the_first_line : map after_line (codes "a b\nc\nd" ∷ codes "a" ∷ codes "a\n" ∷ [])
    ≡ codes "c\nd" ∷ [] ∷ [] ∷ []
rest_after_the_first_line = refl

-- what is read is a model, of names and forms
model_that_is_read : IsModel (record { name = codes "x"; op = X; a = 0; b = 0; value = pos 0 }
    ∷ record { name = codes "f"; op = Neg; a = 0; b = 0; value = pos 0 } ∷ [])
model_that_is_read = read-texts-are-models (codes "x var-x\n# c\nf neg x\n") _ refl

form_that_is_said : IsForm (record { op = Neg; args = codes "x#" ∷ []; value = pos 0 })
form_that_is_said = said-forms-are-forms (codes "neg" ∷ codes "x#" ∷ []) _ refl

names_of_two_lines : All (All MayName) ((codes "x" ∷ codes "var-x" ∷ []) ∷ (codes "#" ∷ codes "c" ∷ []) ∷ [])
names_of_two_lines = tokens-may-name (codes "x var-x\n# c\n")

name_with_a_mark : MayName (codes "x#")
name_with_a_mark other = refl

comment_is_no_name : MayName (codes "#x")
comment_is_no_name other = (cc)

blank_in_a_name : MayName (codes "x y") → ⊥
blank_in_a_name may = let name : false ≡ true = may refl in (cc)

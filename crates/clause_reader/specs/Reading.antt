-- What a text says: a list of clauses, or the line on which it is refused and the reason.
use Rattle.std.specs.Prelude.{◌≡◌, ◌≢◌, ℕ, ◌+◌, ◌-◌, ◌<◌, ◌==◌, Bool, true, not, nat_le, List, [], ◌∷◌, ◌++◌, length, take, Option, Some, None, is_some, is_none, slice_get, slice_index_or, Result, Ok, Err, IsOk, if◌then◌else◌}
use Rattle.std.specs.List.{list_any}
use Rattle.std.specs.Option.{option_map_or}
use Rattle.fixed_ops.specs.declared.operation.Op.{Op}
use Rattle.solid_model.specs.declared.clause.Clause.{Clause}
use Rattle.solid_model.specs.Clauses.{place_of}
use Rattle.clause_reader.specs.declared.text_fault.TextFault.{TextFault}
use Rattle.clause_reader.specs.declared.text_reason.TextReason.{TextReason}
use Rattle.clause_reader.specs.declared.text_reason.TextReason.TheVariants.{NoOperation, UnknownOperation, WrongArity, BadNumeral, UnknownName, DoubleName, TooMany, Empty, NoMemory}
use Rattle.clause_reader.specs.Forms.{operation_of, takes, operands, numerals, is_no_numeral, number_of}
use Rattle.clause_reader.specs.Lines.{lines_of, tokens_of, is_clause}

-- the answer from a value, or from a fault
abbrev pub on_result : {A E C : Type 0} → Result A E → (A → C) → (E → C) → C
on_result (Ok value) found failed = found value
on_result (Err fault) found failed = failed fault

-- one of the names is no clause's
abbrev pub has_unknown : List Clause → List (List ℕ) → Bool
has_unknown clauses names = list_any (λ name. is_none (place_of clauses name)) names

-- the place of the earlier clause that the k-th operand names, or 0 where there is no such operand
abbrev pub place_or_zero : List Clause → List (List ℕ) → ℕ → ℕ
place_or_zero clauses names k =
    option_map_or (λ name. option_map_or (λ place. place) (place_of clauses name) 0)
    (slice_get names k) 0

-- the clause of this name, operation and arguments: each operand replaced by the place of the
-- clause that it names
abbrev pub clause_of : List Clause → List ℕ → Op → List (List ℕ) → Clause
clause_of clauses name op args = record {
  name = name;
  op = op;
  a = place_or_zero clauses (operands op args) 0;
  b = place_or_zero clauses (operands op args) 1;
  value = number_of (numerals op args);
}

-- The clauses with the one that a line's tokens say, or the first reason to refuse the line, in
-- this order: no operation stands after the name, the word names none, the arguments are not as
-- many as it takes, a constant's is no numeral, an operand names no clause before it, the name
-- stands already, there are 65,535 clauses.
abbrev pub clauses_with : List Clause → List (List ℕ) → Result (List Clause) TextReason
clauses_with clauses [] = Err NoOperation
clauses_with clauses (name ∷ []) = Err NoOperation
clauses_with clauses (name ∷ word ∷ args) = on_operation (operation_of word)
  where
    on_operation : Option Op → Result (List Clause) TextReason
    on_operation None = Err UnknownOperation
    on_operation (Some op) =
        if not (length args == takes op) then Err WrongArity
        else if list_any is_no_numeral (numerals op args) then Err BadNumeral
        else if has_unknown clauses (operands op args) then Err UnknownName
        else if is_some (place_of clauses name) then Err DoubleName
        else if nat_le 65535 (length clauses) then Err TooMany
        else Ok (clauses ++ clause_of clauses name op args ∷ [])

-- the clauses after a line, or the first reason to refuse it
abbrev pub line_read : List Clause → List ℕ → Result (List Clause) TextReason
line_read clauses line =
    if is_clause (tokens_of line) then clauses_with clauses (tokens_of line) else Ok clauses

-- the clauses after lines that are numbered from this number on, or the first of them that is refused
abbrev pub lines_read : List Clause → ℕ → List (List ℕ) → Result (List Clause) TextFault
lines_read clauses number [] = Ok clauses
lines_read clauses number (line ∷ lines) =
    on_result (line_read clauses line) (λ new. lines_read new (number + 1) lines)
    (λ reason. Err (record { line = number; reason = reason }))

-- the line 0, where there is no clause
abbrev pub unless_empty : Result (List Clause) TextFault → Result (List Clause) TextFault
unless_empty (Ok []) = Err (record { line = 0; reason = Empty })
unless_empty (Ok (clause ∷ clauses)) = Ok (clause ∷ clauses)
unless_empty (Err fault) = Err fault

-- the clauses of a text, or the line on which it is refused and the reason
abbrev pub text_read : List ℕ → Result (List Clause) TextFault
text_read text = unless_empty (lines_read [] 1 (lines_of text))

-- no line of the text up to this one is refused
abbrev pub IsGoodUpTo : List ℕ → ℕ → Type 0
IsGoodUpTo text line = IsOk (lines_read [] 1 (take line (lines_of text)))

-- memory may be wanted on the line of this number: it says a clause, and no line up to it is refused
pub record MayWantMemory (text : List ℕ) (line : ℕ) : Type 0 where
  pub numbered : 0 < line
  pub says : is_clause (tokens_of (slice_index_or (lines_of text) (line - 1) [])) ≡ true
  pub good : IsGoodUpTo text line

-- what reading a text gives: the model that it says, or the very line and reason for which it is
-- refused, or want of memory on a line that says a clause, up to which no line is refused
abbrev pub GivesModel : List ℕ → Result (List Clause) TextFault → Type 0
GivesModel text (Ok model) = text_read text ≡ Ok model
GivesModel text (Err fault) =
    (fault.reason ≢ NoMemory → text_read text ≡ Err fault)
    × (fault.reason ≡ NoMemory → MayWantMemory text fault.line)

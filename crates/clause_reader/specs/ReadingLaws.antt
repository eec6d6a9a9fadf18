-- What always holds of reading: it says what the relations between lines and clauses say, and
-- nothing else.
use Rattle.std.specs.Prelude.{◌≡◌, ◌≢◌, ◌↔◌, ℕ, ◌⊎◌, List, [], ◌∷◌, ◌++◌, Ok, Err}
use Rattle.solid_model.specs.declared.clause.Clause.{Clause}
use Rattle.clause_reader.specs.declared.text_fault.TextFault.{TextFault}
use Rattle.clause_reader.specs.declared.text_reason.TextReason.{TextReason}
use Rattle.clause_reader.specs.declared.text_reason.TextReason.TheVariants.{NoMemory}
use Rattle.clause_reader.specs.Reading.{clauses_with, text_read}
use Rattle.clause_reader.specs.Says.{Reads, Refuses}

-- a text is read as clauses exactly where it says them and no line is refused
abbrev pub ReadingIsExact : Type 0
ReadingIsExact =
    (text : List ℕ) (clauses : List Clause) → (text_read text ≡ Ok clauses) ↔ Reads text clauses

-- reading answers a line and a reason exactly where the text is refused on this line for this reason
abbrev pub RefusingIsExact : Type 0
RefusingIsExact = (text : List ℕ) (fault : TextFault) →
    (text_read text ≡ Err fault) ↔ Refuses text fault.line fault.reason

-- each text says some clauses, or is refused on some line
abbrev pub EachTextIsAnswered : Type 0
EachTextIsAnswered = (text : List ℕ) → ((clauses : List Clause) × Reads text clauses) ⊎
    ((fault : TextFault) × Refuses text fault.line fault.reason)

-- no text that says clauses is refused on a line
abbrev pub NoneIsReadAndRefused : Type 0
NoneIsReadAndRefused = (text : List ℕ) (clauses : List Clause) (fault : TextFault)
    → Reads text clauses → Refuses text fault.line fault.reason → ⊥

-- no text says two lists of clauses
abbrev pub OneReading : Type 0
OneReading = (text : List ℕ) (a b : List Clause) → Reads text a → Reads text b → a ≡ b

-- no text is refused on two lines, or for two reasons
abbrev pub OneRefusal : Type 0
OneRefusal = (text : List ℕ) (a b : TextFault) → Refuses text a.line a.reason
    → Refuses text b.line b.reason → a ≡ b

-- no text is refused for want of memory, which is no matter of the text
abbrev pub MemoryIsNoReason : Type 0
MemoryIsNoReason =
    (text : List ℕ) (line : ℕ) (reason : TextReason) → Refuses text line reason → reason ≢ NoMemory

-- the tokens of a clause line add one clause at the end, and keep those before it
abbrev pub EachLineAddsOne : Type 0
EachLineAddsOne = (clauses : List Clause) (tokens : List (List ℕ)) (new : List Clause)
    → clauses_with clauses tokens ≡ Ok new → (clause : Clause) × (new ≡ clauses ++ clause ∷ [])

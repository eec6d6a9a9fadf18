-- What a text says, as relations between the lines of the text and the clauses, with no reader in
-- them.
use Rattle.std.specs.Prelude.{◌≡◌, ℕ, ◌+◌, ◌<◌, ◌⊎◌, List, [], length, filter, take, slice_get, Some, Ok, Err}
use Rattle.solid_model.specs.declared.clause.Clause.{Clause}
use Rattle.clause_reader.specs.declared.text_reason.TextReason.{TextReason}
use Rattle.clause_reader.specs.declared.text_reason.TextReason.TheVariants.{Empty}
use Rattle.clause_reader.specs.Lines.{is_clause}
use Rattle.clause_reader.specs.NumberedLines.{numbered_lines}
use Rattle.clause_reader.specs.Reading.{clauses_with}

-- the lines of a text that say a clause, each as its number among all lines and its tokens
abbrev pub clause_lines : List ℕ → List (ℕ × List (List ℕ))
clause_lines text = filter (λ line. is_clause line.1) (numbered_lines text)

-- the clause at place k is what the line at place k says after the clauses before it
pub record IsSaidAt (lines : List (ℕ × List (List ℕ))) (clauses : List Clause) (k : ℕ) : Type 0 where
  pub number : ℕ
  pub tokens : List (List ℕ)
  pub line : slice_get lines k ≡ Some (number, tokens)
  pub says : clauses_with (take k clauses) tokens ≡ Ok (take (k + 1) clauses)

-- the clauses are what the first of the lines say, as many lines as there are clauses
abbrev pub AreSaid : List (ℕ × List (List ℕ)) → List Clause → Type 0
AreSaid lines clauses = (k : ℕ) → k < length clauses → IsSaidAt lines clauses k

-- the text says these clauses and has no defect: there are some, one for each clause line, and each
-- is what its line says
pub record Reads (text : List ℕ) (clauses : List Clause) : Type 0 where
  pub some : 0 < length clauses
  pub as_many : length clauses ≡ length (clause_lines text)
  pub said : AreSaid (clause_lines text) clauses

-- no line of the text says a clause, which is told as line 0
pub record SaysNothing (text : List ℕ) (line : ℕ) (reason : TextReason) : Type 0 where
  pub none : clause_lines text ≡ []
  pub zero : line ≡ 0
  pub empty : reason ≡ Empty

-- the clause line of this number is refused for this reason, after the clauses that the clause
-- lines before it say
pub record HasDefect (text : List ℕ) (line : ℕ) (reason : TextReason) : Type 0 where
  pub before : List Clause
  pub said : AreSaid (clause_lines text) before
  pub tokens : List (List ℕ)
  pub next : slice_get (clause_lines text) (length before) ≡ Some (line, tokens)
  pub defect : clauses_with before tokens ≡ Err reason

-- the text is refused on this line, for this reason
abbrev pub Refuses : List ℕ → ℕ → TextReason → Type 0
Refuses text line reason = SaysNothing text line reason ⊎ HasDefect text line reason

-- How the clause lines of a text are read one after the other.
use Rattle.std.proofs.Common.{◌≡◌, ◌≢◌, ℕ, ◌+◌, ◌-◌, ◌<◌, true, List, [], ◌∷◌, ◌++◌, length, take, Option, None, Some, Result, Ok, Err, IsOk, refl, ap, sym, subst, ◌∙◌, arith, append_assoc}
use Rattle.std.specs.Prelude.{MatchOption}
use Rattle.std.specs.Option.{ok_or}
use Rattle.solid_model.specs.declared.clause.Clause.{Clause}
use Rattle.solid_model.specs.Names.{IsName}
use Rattle.clause_reader.specs.declared.comments.Comments.TheVariants.{Skipped}
use Rattle.clause_reader.specs.declared.read_error.ReadError.{ReadError}
use Rattle.clause_reader.specs.declared.read_error.ReadError.TheVariants.{Memory, Defect}
use Rattle.clause_reader.specs.declared.text_reason.TextReason.{TextReason}
use Rattle.clause_reader.specs.declared.text_reason.TextReason.TheVariants.{Empty, NoMemory}
use Rattle.clause_reader.specs.GivenLines.{IsGiven}
use Rattle.clause_reader.specs.Gives.{Gives, defect_or}
use Rattle.clause_reader.specs.Lines.{lines_of, is_clause}
use Rattle.clause_reader.specs.Reading.{clauses_with, on_result, lines_read, text_read, unless_empty, IsGoodUpTo, GivesModel}
use Rattle.clause_reader.specs.Says.{clause_lines}
use Rattle.clause_reader.specs.Tokens.{AreTokenBytes}
use Rattle.clause_reader.proofs.LineWalk.{given-lines-stand}
use Rattle.clause_reader.proofs.Said.{said, clauses_with-reason, lines_read-said, text_read-said}

-- the clauses are what the first clause lines of the text say, and the others are left
pub record Reads (text : List ℕ) (clauses : List Clause) (left : List (ℕ × List (List ℕ))) : Type 0 where
  pub before : List (ℕ × List (List ℕ))
  pub parts : clause_lines text ≡ before ++ left
  pub read : said [] before ≡ Ok clauses

-- clause lines are read one after the other
said-append : (xs ys : List (ℕ × List (List ℕ))) (clauses : List Clause)
    → said clauses (xs ++ ys) ≡ on_result (said clauses xs) (λ new. said new ys) (λ fault. Err fault)
said-append [] ys clauses = refl
said-append (x ∷ xs) ys clauses = by (clauses_with clauses x.1) (λ new. said-append xs ys new)
  where
    by : (r : Result (List Clause) TextReason)
        → ((new : List Clause) → said new (xs ++ ys) ≡ on_result (said new xs) (λ more. said more ys) (λ fault. Err fault))
        → on_result r (λ new. said new (xs ++ ys)) (λ reason. Err (record { line = x.0; reason = reason }))
        ≡ on_result (on_result r (λ new. said new xs) (λ reason. Err (record { line = x.0; reason = reason }))) (λ more. said more ys) (λ fault. Err fault)
    by (Ok new) later = later new
    by (Err reason) later = refl

-- the text says what the clause lines that are left say after the clauses so far
says-left : (text : List ℕ) (clauses : List Clause) (left : List (ℕ × List (List ℕ))) → Reads text clauses left
    → text_read text ≡ unless_empty (said clauses left)
says-left text clauses left reads =
    text_read-said text ∙ ap (λ lines. unless_empty (said [] lines)) reads.parts
    ∙ ap unless_empty (said-append reads.before left [] ∙ rw reads.read refl)

-- one line more
pub reads-more : (text : List ℕ) (clauses new : List Clause) (number : ℕ) (tokens : List (List ℕ)) (left : List (ℕ × List (List ℕ)))
    → Reads text clauses ((number, tokens) ∷ left) → clauses_with clauses tokens ≡ Ok new → Reads text new left
reads-more text clauses new number tokens left reads ok = record {
  before = reads.before ++ (number, tokens) ∷ [];
  parts = reads.parts ∙ sym (append_assoc reads.before ((number, tokens) ∷ []) left);
  read = said-append reads.before ((number, tokens) ∷ []) [] ∙ rw (reads.read, ok) refl;
}

-- the next line says a clause
pub says-clause : (text : List ℕ) (clauses : List Clause) (number : ℕ) (tokens : List (List ℕ)) (left : List (ℕ × List (List ℕ)))
    → Reads text clauses ((number, tokens) ∷ left) → is_clause tokens ≡ true
says-clause text clauses number tokens left reads = (given-lines-stand Skipped 1 (lines_of text) reads.before number tokens left reads.parts).given

-- so its first token is a name
pub named : (first : List ℕ) (others : List (List ℕ)) → is_clause (first ∷ others) ≡ true → AreTokenBytes first → 0 < length first → IsName first
named [] others solid bytes some = absurd (omega arith)
named (byte ∷ bytes) others solid all some = rw solid all

-- it is refused, or memory is wanted for it
pub stop : (text : List ℕ) (clauses : List Clause) (number : ℕ) (tokens : List (List ℕ)) (left : List (ℕ × List (List ℕ))) (error : ReadError TextReason)
    → Reads text clauses ((number, tokens) ∷ left) → Gives (clauses_with clauses tokens) (Err error)
    → GivesModel text (Err (record { line = number; reason = defect_or NoMemory error }))
stop text clauses number tokens left Memory reads accepted = (
  λ other. absurd (other refl),
  λ same. record {
    numbered = omega (arith, at.numbered);
    says = let place : number - 1 ≡ at.place = omega (arith, at.numbered) in rw place (ap is_clause at.line ∙ at.given);
    good = good (clauses_with clauses tokens) refl accepted;
  },
)
  where
    at : IsGiven Skipped 1 (lines_of text) reads.before number tokens left
    at = given-lines-stand Skipped 1 (lines_of text) reads.before number tokens left reads.parts

    good : (r : Result (List Clause) TextReason) → clauses_with clauses tokens ≡ r → IsOk r → IsGoodUpTo text number
    good (Ok new) is ok =
        let up_to : number ≡ at.place + 1 = omega (arith, at.numbered) in
        let front : lines_read [] 1 (take number (lines_of text)) ≡ Ok new =
        ap (λ n. lines_read [] 1 (take n (lines_of text))) up_to ∙ lines_read-said (take (at.place + 1) (lines_of text)) [] 1 ∙ ap (said []) at.up_to
        ∙ said-append reads.before ((number, tokens) ∷ []) [] ∙ rw (reads.read, is) refl in
        subst IsOk (sym front) refl
    good (Err other) is ok = (cc)
stop text clauses number tokens left (Defect reason) reads refused = (
  λ other. says-left text clauses ((number, tokens) ∷ left) reads ∙ rw refused refl,
  λ same. absurd (clauses_with-reason clauses tokens reason refused same),
)

-- the end of the text
pub finish : (text : List ℕ) (clauses : List Clause) (r : Option (List Clause)) → Reads text clauses []
    → MatchOption r (clauses ≡ []) (λ model. (model ≡ clauses) × (clauses ≢ []))
    → GivesModel text (ok_or r (record { line = 0; reason = Empty }))
finish text clauses r reads end = by r end (says-left text clauses [] reads)
  where
    some : (xs : List Clause) → xs ≢ [] → unless_empty (Ok xs) ≡ Ok xs
    some [] h = absurd (h refl)
    some (x ∷ xs) h = refl

    by : (r : Option (List Clause)) → MatchOption r (clauses ≡ []) (λ model. (model ≡ clauses) × (clauses ≢ [])) → text_read text ≡ unless_empty (Ok clauses)
        → GivesModel text (ok_or r (record { line = 0; reason = Empty }))
    by None none read = (λ h. read ∙ ap (λ xs. unless_empty (Ok xs)) none, λ h. (cc))
    by (Some model) is read = read ∙ some clauses is.1 ∙ ap Ok (sym is.0)

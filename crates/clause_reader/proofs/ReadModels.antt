-- What is read is a model: each line adds a clause that may stand behind the others.
use Rattle.std.proofs.Common.{◌≡◌, ◌≢◌, ℕ, zero, suc, ◌+◌, ◌<◌, ◌≤◌, pos, Bool, true, false, cond, not, eqb, nat_le, List, [], ◌∷◌, ◌++◌, length, Option, None, Some, Result, Ok, Err, slice_get, refl, ap, sym, subst, ◌∙◌, arith}
use Rattle.std.specs.Prelude.{All, IsFalse, map}
use Rattle.std.specs.List.{list_any, position_or_len}
use Rattle.std.specs.Option.{unwrap_or}
use Rattle.std.specs.Str.Parse.{starts_with_minus, without_leading_sign}
use Rattle.std.proofs.lemmas.Bool.{eqb-true, ne_eqb}
use Rattle.std.proofs.lemmas.Bool.Decides.{nat_tests}
use Rattle.std.proofs.lemmas.Int.{ints}
use Rattle.std.proofs.lemmas.List.Elements.{All-cons, All-head, All-nil, All-tail}
use Rattle.std.proofs.lemmas.List.Quantifiers.{position-Some}
use Rattle.std.proofs.lemmas.Option.{slice_get_past}
use Rattle.fixed_ops.specs.declared.operation.Op.{Op}
use Rattle.fixed_ops.specs.declared.operation.Op.TheVariants.{Const}
use Rattle.fixed_ops.specs.Numerals.{is_numeral, numeral_value, unsigned_raw}
use Rattle.fixed_ops.specs.Raw.{IsRaw}
use Rattle.solid_model.specs.declared.clause.Clause.{Clause}
use Rattle.solid_model.specs.Clauses.{place_of, AreClauses, FitsAt, IsModel}
use Rattle.solid_model.specs.Names.{is_blank, IsName}
use Rattle.solid_model.specs.Parts.{IsForm, Parts}
use Rattle.clause_reader.specs.declared.form_defect.FormDefect.{FormDefect}
use Rattle.clause_reader.specs.declared.text_fault.TextFault.{TextFault}
use Rattle.clause_reader.specs.declared.text_reason.TextReason.{TextReason}
use Rattle.clause_reader.specs.Forms.{is_no_numeral, number_of, numerals, operation_of, parts_of, parts_written, takes, unless_comment, with_names}
use Rattle.clause_reader.specs.LineLaws.{HasNoBlank, HasNoFeed, Spaced}
use Rattle.clause_reader.specs.Lines.{begins_comment, is_clause, lines_of, tokens_of}
use Rattle.clause_reader.specs.ReadModels.{MayName, ReadTextsAreModels, SaidFormsAreForms, TokensMayName}
use Rattle.clause_reader.specs.Reading.{clauses_with, has_unknown, line_read, lines_read, place_or_zero, unless_empty}
use Rattle.clause_reader.specs.Tokens.{AreTokenBytes}
use Rattle.clause_reader.specs.Written.{extended}
use Rattle.clause_reader.proofs.LineLemmas.{lines_exactly}
use Rattle.clause_reader.proofs.LineSteps.{named}
use Rattle.clause_reader.proofs.TokenLemmas.{tokens_exactly}
use Rattle.clause_reader.proofs.WrittenLemmas.{clauses_with-written}
use Rattle.fixed_ops.proofs.NumeralLaws.{signed_is_raw, unsigned_is_small}
use Rattle.solid_model.proofs.ModelLemmas.{AreClauses-nil, AreClauses-push}

-- bytes that are neither blanks nor a line feed may stand in a token
token-bytes : (token : List ℕ) → HasNoBlank token → HasNoFeed token → AreTokenBytes token
token-bytes [] solid whole = refl
token-bytes (byte ∷ token) solid whole =
    let no_blank : is_blank byte ≡ false = All-head (λ b. IsFalse (is_blank b)) byte token solid in
    let no_feed : eqb byte 10 ≡ false = ne_eqb byte 10 (All-head (λ b. b ≢ 10) byte token whole) in
    rw (no_blank, no_feed) (token-bytes token (All-tail (λ b. IsFalse (is_blank b)) byte token solid) (All-tail (λ b. b ≢ 10) byte token whole))

may-name : (token : List ℕ) → 0 < length token → AreTokenBytes token → MayName token
may-name [] some all other = absurd (omega (arith, some))
may-name (byte ∷ bytes) some all other = rw other all

-- what has no line feed has none in its parts
no-feed-left : (xs ys : List ℕ) → HasNoFeed (xs ++ ys) → HasNoFeed xs
no-feed-left [] ys all = All-nil (λ b. b ≢ 10)
no-feed-left (x ∷ xs) ys all =
    All-cons (λ b. b ≢ 10) x xs (All-head (λ b. b ≢ 10) x (xs ++ ys) all) (no-feed-left xs ys (All-tail (λ b. b ≢ 10) x (xs ++ ys) all))

no-feed-right : (xs ys : List ℕ) → HasNoFeed (xs ++ ys) → HasNoFeed ys
no-feed-right [] ys all = all
no-feed-right (x ∷ xs) ys all = no-feed-right xs ys (All-tail (λ b. b ≢ 10) x (xs ++ ys) all)

spaced-name : (tokens : List (List ℕ)) (line : List ℕ) → HasNoFeed line → Spaced line tokens → All MayName tokens
spaced-name [] line whole spaced = All-nil MayName
spaced-name (token ∷ others) line whole (rest, first, later) =
    let parts = no-feed-right first.gap (token ++ rest) (subst HasNoFeed first.parts whole) in
    All-cons MayName token others
    (may-name token first.some (token-bytes token first.no_blank (no-feed-left token rest parts)))
    (spaced-name others rest (no-feed-right token rest parts) later)

line-names : (line : List ℕ) → HasNoFeed line → All MayName (tokens_of line)
line-names line whole = spaced-name (tokens_of line) line whole ((tokens_exactly line (tokens_of line)).0 refl)

all-names : (lines : List (List ℕ)) → All HasNoFeed lines → All (All MayName) (map tokens_of lines)
all-names [] whole = All-nil (All MayName)
all-names (line ∷ lines) whole =
    All-cons (All MayName) (tokens_of line) (map tokens_of lines) (line-names line (All-head HasNoFeed line lines whole))
    (all-names lines (All-tail HasNoFeed line lines whole))

no-feeds : (text : List ℕ) → All HasNoFeed (lines_of text)
no-feeds text = ((lines_exactly text (lines_of text)).0 refl).whole

pub tokens-may-name : TokensMayName
tokens-may-name text = all-names (lines_of text) (no-feeds text)

zero-raw : IsRaw (pos 0)
zero-raw = (omega (arith, ints), omega (arith, ints))

numeral-raw : (token : List ℕ) → IsRaw (numeral_value token)
numeral-raw token = signed_is_raw (starts_with_minus token) (unsigned_raw (without_leading_sign token)) (unsigned_is_small (without_leading_sign token))

number-raw : (tokens : List (List ℕ)) → IsRaw (number_of tokens)
number-raw [] = zero-raw
number-raw (token ∷ others) = by (is_numeral token)
  where
    by : (t : Bool) → IsRaw (unwrap_or (cond t (Some (numeral_value token)) None) (pos 0))
    by true = numeral-raw token
    by false = zero-raw

-- what has as many arguments as its operation takes is a form
parts-form : (op : Op) (args : List (List ℕ)) → length args ≡ takes op → IsForm (parts_of op args)
parts-form Const args many = record { arity = refl; no_value = λ other. absurd (other refl); raw = number-raw args }
parts-form op args many = record { arity = many; no_value = λ other. refl; raw = zero-raw }

written-form : (tokens : List (List ℕ)) (form : Parts) → parts_written tokens ≡ Ok form → IsForm form
written-form [] form e = (cc)
written-form (word ∷ args) form e = by (operation_of word) refl
  where
    at : (op : Op) (arity number : Bool) → operation_of word ≡ Some op → eqb (length args) (takes op) ≡ arity
        → list_any is_no_numeral (numerals op args) ≡ number → IsForm form
    at op false number is a n = let got = rw (is, a) at e in (cc)
    at op true true is a n = let got = rw (is, a, n) at e in (cc)
    at op true false is a n =
        let got = rw (is, a, n) at e in
        let same : parts_of op args ≡ form = cc in
        subst IsForm same (parts-form op args (eqb-true (length args) (takes op) a))

    by : (o : Option Op) → operation_of word ≡ o → IsForm form
    by None is = let got = rw is at e in (cc)
    by (Some op) is = at op _ _ is refl refl

pub said-forms-are-forms : SaidFormsAreForms
said-forms-are-forms tokens form e = by (parts_written tokens) refl e
  where
    at : (parts : Parts) (comment : Bool) → list_any begins_comment parts.args ≡ comment → unless_comment parts ≡ Some form → parts ≡ form
    at parts true c h = let got = rw c at h in (cc)
    at parts false c h = let got = rw c at h in (cc)

    by : (r : Result Parts FormDefect) → parts_written tokens ≡ r → with_names r ≡ Ok (Some form) → IsForm form
    by (Ok parts) is h =
        let some : unless_comment parts ≡ Some form = cc in
        written-form tokens form (is ∙ ap Ok (at parts (list_any begins_comment parts.args) refl some))
    by (Err defect) is h = (cc)

-- a name that a test finds at a place
passes-within : {A : Type 0} (p : A → Bool) (xs : List A) (i : ℕ) (x : A) → slice_get xs i ≡ Some x → p x ≡ true → position_or_len p xs < length xs
passes-within p [] i x e h = (cc)
passes-within p (y ∷ ys) zero x e h = let first : p y ≡ true = cc in rw first (omega arith)
passes-within p (y ∷ ys) (suc i) x e h = by (p y) (passes-within p ys i x e h)
  where
    by : (b : Bool) → position_or_len p ys < length ys → cond (not b) (1 + position_or_len p ys) 0 < length (y ∷ ys)
    by true less = omega (arith, less)
    by false less = omega (arith, less)

-- an operand that is known stands among the clauses
place-within : (clauses : List Clause) (names : List (List ℕ)) (k : ℕ) → has_unknown clauses names ≡ false → k < length names
    → place_or_zero clauses names k < length clauses
place-within clauses [] k known less = absurd (omega (arith, less))
place-within clauses (name ∷ names) zero known less = by (place_of clauses name) refl
  where
    by : (o : Option ℕ) → place_of clauses name ≡ o → place_or_zero clauses (name ∷ names) zero < length clauses
    by None is = let got = rw is at known in (cc)
    by (Some at) is = rw is (position-Some _ clauses at (record { name = []; op = Const; a = 0; b = 0; value = pos 0 }) is).0
place-within clauses (name ∷ names) (suc k) known less = place-within clauses names k (others (place_of clauses name) refl) (omega (arith, less))
  where
    others : (o : Option ℕ) → place_of clauses name ≡ o → has_unknown clauses names ≡ false
    others None is = let got = rw is at known in (cc)
    others (Some at) is = rw is at known

-- and one that is not there has the place 0
place-lacking : (clauses : List Clause) (names : List (List ℕ)) (k : ℕ) → length names ≤ k → place_or_zero clauses names k ≡ 0
place-lacking clauses names k past = rw (slice_get_past names k past) refl

fits-end : (clauses : List Clause) (form : Parts) → IsForm form → has_unknown clauses form.args ≡ false
    → FitsAt (length clauses) form.op (place_or_zero clauses form.args 0) (place_or_zero clauses form.args 1) form.value
fits-end clauses form is known = record {
  first = λ h. place-within clauses form.args 0 known (omega (arith, h, is.arity));
  second = λ h. place-within clauses form.args 1 known (omega (arith, h, is.arity));
  no_first = λ h. place-lacking clauses form.args 0 (omega (arith, h, is.arity));
  no_second = λ h. place-lacking clauses form.args 1 (omega (arith, h, is.arity));
  no_value = is.no_value;
}

extended-are : (clauses : List Clause) (name : List ℕ) (form : Parts) (new : List Clause) → AreClauses clauses → IsName name → IsForm form
    → extended clauses name (Ok form) ≡ Ok new → AreClauses new
extended-are clauses name form new are named is e = by (has_unknown clauses form.args) (place_of clauses name) (nat_le 65535 (length clauses)) refl refl refl
  where
    clause : Clause
    clause = record {
      name = name;
      op = form.op;
      a = place_or_zero clauses form.args 0;
      b = place_or_zero clauses form.args 1;
      value = form.value;
    }

    by : (unknown : Bool) (place : Option ℕ) (full : Bool) → has_unknown clauses form.args ≡ unknown → place_of clauses name ≡ place
        → nat_le 65535 (length clauses) ≡ full → AreClauses new
    by true place full u p f = let got = rw u at e in (cc)
    by false (Some at) full u p f = let got = rw (u, p) at e in (cc)
    by false None true u p f = let got = rw (u, p, f) at e in (cc)
    by false None false u p f =
        let got = rw (u, p, f) at e in
        let same : clauses ++ clause ∷ [] ≡ new = cc in
        let room : length clauses < 65535 = grind (arith, nat_tests) in
        subst AreClauses same (AreClauses-push clauses clause are room (record { name = named; raw = is.raw; fits = fits-end clauses form is u }) p)

tokens-are : (clauses : List Clause) (tokens : List (List ℕ)) (new : List Clause) → AreClauses clauses → All MayName tokens → is_clause tokens ≡ true
    → clauses_with clauses tokens ≡ Ok new → AreClauses new
tokens-are clauses [] new are names says e = (cc)
tokens-are clauses (name ∷ tokens) new are names says e = by (parts_written tokens) refl (sym (clauses_with-written clauses name tokens) ∙ e)
  where
    other : (t : Bool) → begins_comment name ≡ t → not t ≡ true → begins_comment name ≡ false
    other true is h = (cc)
    other false is h = is

    by : (r : Result Parts FormDefect) → parts_written tokens ≡ r → extended clauses name (parts_written tokens) ≡ Ok new → AreClauses new
    by (Err defect) is h = let got = rw is at h in (cc)
    by (Ok form) is h =
        extended-are clauses name form new are (All-head MayName name tokens names (other (begins_comment name) refl says)) (written-form tokens form is)
        (ap (extended clauses name) (sym is) ∙ h)

line-are : (clauses : List Clause) (line : List ℕ) (new : List Clause) → AreClauses clauses → HasNoFeed line → line_read clauses line ≡ Ok new → AreClauses new
line-are clauses line new are whole e = by (is_clause (tokens_of line)) refl
  where
    by : (t : Bool) → is_clause (tokens_of line) ≡ t → AreClauses new
    by true says = tokens-are clauses (tokens_of line) new are (line-names line whole) says (rw says at e)
    by false says = let got = rw says at e in let same : clauses ≡ new = cc in subst AreClauses same are

lines-are : (lines : List (List ℕ)) (clauses : List Clause) (number : ℕ) (new : List Clause) → AreClauses clauses → All HasNoFeed lines
    → lines_read clauses number lines ≡ Ok new → AreClauses new
lines-are [] clauses number new are whole e = let same : clauses ≡ new = cc in subst AreClauses same are
lines-are (line ∷ lines) clauses number new are whole e =
    by (line_read clauses line) refl (λ next next_are. lines-are lines next (number + 1) new next_are (All-tail HasNoFeed line lines whole))
  where
    by : (r : Result (List Clause) TextReason) → line_read clauses line ≡ r
        → ((next : List Clause) → AreClauses next → lines_read next (number + 1) lines ≡ Ok new → AreClauses new) → AreClauses new
    by (Err reason) is later = let got = rw is at e in (cc)
    by (Ok next) is later = later next (line-are clauses line next are (All-head HasNoFeed line lines whole) is) (rw is at e)

pub read-texts-are-models : ReadTextsAreModels
read-texts-are-models text clauses e = by (lines_read [] 1 (lines_of text)) refl e
  where
    by : (r : Result (List Clause) TextFault) → lines_read [] 1 (lines_of text) ≡ r → unless_empty r ≡ Ok clauses → IsModel clauses
    by (Err fault) is h = (cc)
    by (Ok []) is h = (cc)
    by (Ok (first ∷ others)) is h =
        let same : first ∷ others ≡ clauses = cc in
        subst IsModel same (record { some = omega arith; clauses_are = lines-are (lines_of text) [] 1 (first ∷ others) AreClauses-nil (no-feeds text) is })

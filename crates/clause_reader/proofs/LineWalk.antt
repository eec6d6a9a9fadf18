-- The lines that are given are passed one after the other.
use Rattle.std.proofs.Common.{◌≡◌, ℕ, suc, ◌+◌, ◌<◌, Bool, true, false, cond, List, [], ◌∷◌, ◌++◌, length, refl, ap, sym, subst, ◌∙◌, arith}
use Rattle.clause_reader.specs.declared.comments.Comments.{Comments}
use Rattle.clause_reader.specs.declared.comments.Comments.TheVariants.{Skipped, Kept}
use Rattle.clause_reader.specs.GivenLines.{IsGiven, GivenLinesStand}
use Rattle.clause_reader.specs.Lines.{lines_of, tokens_of}
use Rattle.clause_reader.proofs.LineSplits.{lines_of-some, none-left}
use Rattle.clause_reader.specs.NumberedLines.{is_given, given_from}
use Rattle.clause_reader.specs.Scan.{after_line, line_tokens}

-- the lines from the first line of a text on
abbrev Rest : Comments → ℕ → List ℕ → List (ℕ × List (List ℕ))
Rest comments number text = given_from comments number (lines_of text)

rest-first : (comments : Comments) (number : ℕ) (text : List ℕ) → 0 < length text
    → Rest comments number text
    ≡ cond (is_given comments (line_tokens text)) ((number, line_tokens text) ∷ Rest comments (number + 1) (after_line text)) (Rest comments (number + 1) (after_line text))
rest-first comments number text some = ap (given_from comments number) (lines_of-some text some)

-- a blank line is not given
blank-skipped : (comments : Comments) → is_given comments [] ≡ false
blank-skipped Skipped = refl
blank-skipped Kept = refl

-- a line that is not given
pub skip-blank : (comments : Comments) (number : ℕ) (text : List ℕ) → 0 < length text → line_tokens text ≡ []
    → Rest comments number text ≡ Rest comments (number + 1) (after_line text)
skip-blank comments number text some blank =
    let skipped : is_given comments (line_tokens text) ≡ false = ap (is_given comments) blank ∙ blank-skipped comments in
    rest-first comments number text some ∙ rw skipped refl

pub skip-line : (comments : Comments) (number : ℕ) (text first : List ℕ) (others : List (List ℕ)) → 0 < length text → line_tokens text ≡ first ∷ others
    → is_given comments (first ∷ others) ≡ false → Rest comments number text ≡ Rest comments (number + 1) (after_line text)
skip-line comments number text first others some is comment =
    let skipped : is_given comments (line_tokens text) ≡ false = ap (is_given comments) is ∙ comment in
    rest-first comments number text some ∙ rw skipped refl

-- a line that is
pub give-line : (comments : Comments) (number : ℕ) (text first : List ℕ) (others : List (List ℕ)) → 0 < length text → line_tokens text ≡ first ∷ others
    → is_given comments (first ∷ others) ≡ true
    → Rest comments number text ≡ (number, first ∷ others) ∷ Rest comments (number + 1) (after_line text)
give-line comments number text first others some is solid =
    let given : is_given comments (line_tokens text) ≡ true = ap (is_given comments) is ∙ solid in
    rest-first comments number text some ∙ rw given (ap (λ (tokens : List (List ℕ)). (number, tokens) ∷ Rest comments (number + 1) (after_line text)) is)

-- and at the end none is left
pub give-none : (comments : Comments) (number : ℕ) (text : List ℕ) → length text ≡ 0 → Rest comments number text ≡ []
give-none comments number text none = ap (given_from comments number) (none-left text none)

-- each line that is given stands at its number
pub given-lines-stand : GivenLinesStand
given-lines-stand comments from [] [] number tokens after e = (cc)
given-lines-stand comments from [] (one ∷ before) number tokens after e = (cc)
given-lines-stand comments from (line ∷ lines) before number tokens after e =
    by (is_given comments (tokens_of line)) refl before e (λ front h. given-lines-stand comments (from + 1) lines front number tokens after h)
  where
    Given : List (ℕ × List (List ℕ)) → Type 0
    Given before = IsGiven comments from (line ∷ lines) before number tokens after

    Later : List (ℕ × List (List ℕ)) → Type 0
    Later before = IsGiven comments (from + 1) lines before number tokens after

    skipped : (before : List (ℕ × List (List ℕ))) → Later before → is_given comments (tokens_of line) ≡ false → Given before
    skipped before at not_given =
        let more : suc at.place + 1 ≡ suc (at.place + 1) = omega arith in
        record {
          place = suc at.place;
          numbered = omega (arith, at.numbered);
          line = at.line;
          given = at.given;
          up_to = rw (more, not_given) at.up_to;
          later = rw more at.later;
        }

    passed : (before : List (ℕ × List (List ℕ))) → Later before → is_given comments (tokens_of line) ≡ true → Given ((from, tokens_of line) ∷ before)
    passed before at given =
        let more : suc at.place + 1 ≡ suc (at.place + 1) = omega arith in
        record {
          place = suc at.place;
          numbered = omega (arith, at.numbered);
          line = at.line;
          given = at.given;
          up_to = rw (more, given) (ap (λ (others : List (ℕ × List (List ℕ))). (from, tokens_of line) ∷ others) at.up_to);
          later = rw more at.later;
        }

    first : ◌≡◌ {A = ℕ × List (List ℕ)} (from, tokens_of line) (number, tokens) → given_from comments (from + 1) lines ≡ after
        → is_given comments (tokens_of line) ≡ true → Given []
    first same rest given =
        let is : tokens_of line ≡ tokens = ap (λ (pair : ℕ × List (List ℕ)). pair.1) same in
        let one : from ≡ number = ap (λ (pair : ℕ × List (List ℕ)). pair.0) same in
        record {
          place = 0;
          numbered = omega (arith, one);
          line = is;
          given = subst (λ (found : List (List ℕ)). is_given comments found ≡ true) is given;
          up_to = rw given (ap (λ (pair : ℕ × List (List ℕ)). pair ∷ []) same);
          later = ap (λ n. given_from comments (n + 1) lines) (sym one) ∙ rest;
        }

    by : (b : Bool) → is_given comments (tokens_of line) ≡ b → (before : List (ℕ × List (List ℕ)))
        → cond b ((from, tokens_of line) ∷ given_from comments (from + 1) lines) (given_from comments (from + 1) lines) ≡ before ++ (number, tokens) ∷ after
        → ((front : List (ℕ × List (List ℕ))) → given_from comments (from + 1) lines ≡ front ++ (number, tokens) ∷ after → Later front)
        → Given before
    by true is [] e next =
        let same : ◌≡◌ {A = ℕ × List (List ℕ)} (from, tokens_of line) (number, tokens) = cc in
        let rest : given_from comments (from + 1) lines ≡ after = cc in
        first same rest is
    by true is (one ∷ before) e next =
        let same : ◌≡◌ {A = ℕ × List (List ℕ)} (from, tokens_of line) one = cc in
        let rest : given_from comments (from + 1) lines ≡ before ++ (number, tokens) ∷ after = cc in
        subst (λ (pair : ℕ × List (List ℕ)). Given (pair ∷ before)) same (passed before (next before rest) is)
    by false is before e next = skipped before (next before e) is

-- The lines of a text are the one list of lines that it is.
use Rattle.std.proofs.Common.{◌≡◌, ◌≢◌, ◌↔◌, ℕ, Bool, true, false, cond, List, [], ◌∷◌, ◌++◌, length, get_or, refl, sym, ap, subst, ◌∙◌}
use Rattle.std.specs.Prelude.{All}
use Rattle.std.proofs.lemmas.Bool.{eqb-true, eqb-false, ne_eqb}
use Rattle.std.proofs.lemmas.List.Elements.{All-nil, All-cons, All-head, All-tail}
use Rattle.clause_reader.specs.Lines.{is_feed, onto_first, lines_of}
use Rattle.clause_reader.specs.LineLaws.{ended, with_feed, HasNoFeed, AreLines}

-- no line that `lines_of` gives holds a line feed
lines_of-whole : (text : List ℕ) → All HasNoFeed (lines_of text)
lines_of-whole [] = All-nil HasNoFeed
lines_of-whole (byte ∷ rest) = by (is_feed byte) refl (lines_of-whole rest)
  where
    onto : byte ≢ 10 → (lines : List (List ℕ)) → All HasNoFeed lines → All HasNoFeed (onto_first byte lines)
    onto other [] all = All-cons HasNoFeed (byte ∷ []) [] (All-cons (λ b. b ≢ 10) byte [] other (All-nil (λ b. b ≢ 10))) (All-nil HasNoFeed)
    onto other (line ∷ lines) all =
        All-cons HasNoFeed (byte ∷ line) lines (All-cons (λ b. b ≢ 10) byte line other (All-head HasNoFeed line lines all)) (All-tail HasNoFeed line lines all)

    by : (t : Bool) → is_feed byte ≡ t → All HasNoFeed (lines_of rest) → All HasNoFeed (cond t ([] ∷ lines_of rest) (onto_first byte (lines_of rest)))
    by true e later = All-cons HasNoFeed [] (lines_of rest) (All-nil (λ b. b ≢ 10)) later
    by false e later = onto (eqb-false byte 10 e) (lines_of rest) later

-- whether the last byte is a line feed does not rest on the first of two bytes or more
with_feed-more : (byte next : ℕ) (others : List ℕ) → with_feed (byte ∷ next ∷ others) ≡ byte ∷ with_feed (next ∷ others)
with_feed-more byte next others = by (is_feed (get_or (next ∷ others) (length others) 0))
  where
    by : (t : Bool) → cond t (byte ∷ next ∷ others) ((byte ∷ next ∷ others) ++ 10 ∷ []) ≡ byte ∷ cond t (next ∷ others) ((next ∷ others) ++ 10 ∷ [])
    by true = refl
    by false = refl

-- a byte of a line goes in front of what the lines are together, which is not empty
ended-onto : (byte next : ℕ) (others : List ℕ) (lines : List (List ℕ)) → ended lines ≡ with_feed (next ∷ others)
    → ended (onto_first byte lines) ≡ byte ∷ with_feed (next ∷ others)
ended-onto byte next others [] e = by (is_feed (get_or (next ∷ others) (length others) 0)) e
  where
    by : (t : Bool) → [] ≡ cond t (next ∷ others) ((next ∷ others) ++ 10 ∷ []) → ended (onto_first byte []) ≡ byte ∷ with_feed (next ∷ others)
    by true h = (cc)
    by false h = (cc)
ended-onto byte next others (line ∷ lines) e = ap (λ bytes. byte ∷ bytes) e

-- the lines are together the text, with a line feed at its end
ended-lines_of : (text : List ℕ) → ended (lines_of text) ≡ with_feed text
ended-lines_of [] = refl
ended-lines_of (byte ∷ []) = by (is_feed byte) refl
  where
    by : (t : Bool) → is_feed byte ≡ t → ended (cond t ([] ∷ []) ((byte ∷ []) ∷ [])) ≡ cond t (byte ∷ []) (byte ∷ 10 ∷ [])
    by true e = ap (λ b. b ∷ []) (sym (eqb-true byte 10 e))
    by false e = refl
ended-lines_of (byte ∷ next ∷ others) = by (is_feed byte) refl (ended-lines_of (next ∷ others)) ∙ sym (with_feed-more byte next others)
  where
    by : (t : Bool) → is_feed byte ≡ t → ended (lines_of (next ∷ others)) ≡ with_feed (next ∷ others)
        → ended (cond t ([] ∷ lines_of (next ∷ others)) (onto_first byte (lines_of (next ∷ others)))) ≡ byte ∷ with_feed (next ∷ others)
    by true e later = let feed : byte ≡ 10 = eqb-true byte 10 e in rw feed (ap (λ bytes. 10 ∷ bytes) later)
    by false e later = ended-onto byte next others (lines_of (next ∷ others)) later

-- bytes up to a line feed are the first line
pub lines_of-first : (line rest : List ℕ) → HasNoFeed line → lines_of ((line ++ 10 ∷ []) ++ rest) ≡ line ∷ lines_of rest
lines_of-first [] rest all = refl
lines_of-first (byte ∷ line) rest all =
    let other : is_feed byte ≡ false = ne_eqb byte 10 (All-head (λ b. b ≢ 10) byte line all) in
    rw other (ap (onto_first byte) (lines_of-first line rest (All-tail (λ b. b ≢ 10) byte line all)))

-- lines that hold no line feed are the lines of what they are together
pub lines_of-ended : (lines : List (List ℕ)) → All HasNoFeed lines → lines_of (ended lines) ≡ lines
lines_of-ended [] all = refl
lines_of-ended (line ∷ lines) all =
    lines_of-first line (ended lines) (All-head HasNoFeed line lines all) ∙ ap (λ ls. line ∷ ls) (lines_of-ended lines (All-tail HasNoFeed line lines all))

pub lines_exactly : (text : List ℕ) (lines : List (List ℕ)) → (lines ≡ lines_of text) ↔ AreLines text lines
lines_exactly text lines = (
  λ e. subst (λ ls. AreLines text ls) (sym e) (record { whole = lines_of-whole text; joined = ended-lines_of text }),
  λ are. sym (lines_of-ended lines are.whole) ∙ ap lines_of (are.joined ∙ sym (ended-lines_of text)) ∙ lines_of-ended (lines_of text) (lines_of-whole text),
)

-- A text is the line with which it begins, and the lines after that.
use Rattle.std.proofs.Common.{◌≡◌, ℕ, suc, ◌+◌, ◌<◌, ◌≤◌, Bool, true, false, cond, not, List, [], ◌∷◌, length, take, drop, ◌⊎◌, inl, inr, refl, arith}
use Rattle.std.specs.List.{position_or_len}
use Rattle.std.proofs.lemmas.Bool.{cases_lt}
use Rattle.std.proofs.lemmas.List.{take_all, drop_all, length-drop}
use Rattle.std.proofs.lemmas.List.Sums.{prefix_len-le-length}
use Rattle.clause_reader.specs.FirstLines.{TextsBeginWithLines}
use Rattle.clause_reader.specs.Lines.{is_feed, onto_first, line_of, lines_of}
use Rattle.clause_reader.specs.Scan.{after_line}

-- a text with a line feed is the line before it, and the lines after it
lines_first : (text : List ℕ) → position_or_len is_feed text < length text
    → lines_of text ≡ line_of text ∷ lines_of (after_line text)
lines_first [] lt = absurd (omega arith)
lines_first (byte ∷ rest) lt = by (is_feed byte) lt (λ h. lines_first rest h)
  where
    by : (t : Bool) → cond (not t) (1 + position_or_len is_feed rest) 0 < length (byte ∷ rest)
        → (position_or_len is_feed rest < length rest
        → lines_of rest
        ≡ take (position_or_len is_feed rest) rest
        ∷ lines_of (drop (position_or_len is_feed rest + 1) rest))
        → cond t ([] ∷ lines_of rest) (onto_first byte (lines_of rest))
        ≡ take (cond (not t) (1 + position_or_len is_feed rest) 0) (byte ∷ rest)
        ∷ lines_of (drop (cond (not t) (1 + position_or_len is_feed rest) 0 + 1) (byte ∷ rest))
    by true h later = refl
    by false h later =
        let e : 1 + position_or_len is_feed rest ≡ suc (position_or_len is_feed rest) = omega arith in
        let f : suc (position_or_len is_feed rest) + 1 ≡ suc (position_or_len is_feed rest + 1) =
        omega arith in
        rw (later (omega arith), e, f) refl

-- a text without one is one line
lines_last : (text : List ℕ) → 0 < length text → length text ≡ position_or_len is_feed text
    → lines_of text ≡ text ∷ []
lines_last [] lt e = absurd (omega arith)
lines_last (byte ∷ []) lt e = by (is_feed byte) e
  where
    by : (t : Bool) → 1 ≡ cond (not t) (1 + 0) 0
        → cond t ([] ∷ []) ((byte ∷ []) ∷ []) ≡ (byte ∷ []) ∷ []
    by true h = absurd (omega arith)
    by false h = refl
lines_last (byte ∷ next ∷ others) lt e =
    by (is_feed byte) e (λ h. lines_last (next ∷ others) (omega arith) h)
  where
    by : (t : Bool)
        → suc (length (next ∷ others))
        ≡ cond (not t) (1 + position_or_len is_feed (next ∷ others)) 0
        → (length (next ∷ others) ≡ position_or_len is_feed (next ∷ others)
        → lines_of (next ∷ others) ≡ (next ∷ others) ∷ [])
        → cond t ([] ∷ lines_of (next ∷ others)) (onto_first byte (lines_of (next ∷ others)))
        ≡ (byte ∷ next ∷ others) ∷ []
    by true h later = absurd (omega arith)
    by false h later = rw (later (omega arith)) refl

-- a text that is not empty is a line, and the lines after it
pub lines_of-some : (text : List ℕ) → 0 < length text
    → lines_of text ≡ line_of text ∷ lines_of (after_line text)
lines_of-some text some = by (cases_lt (position_or_len is_feed text) (length text))
  where
    by : (position_or_len is_feed text < length text) ⊎ (length text ≤ position_or_len is_feed text)
        → lines_of text ≡ line_of text ∷ lines_of (after_line text)
    by (inl less) = lines_first text less
    by (inr more) =
        let end : length text ≡ position_or_len is_feed text =
        omega (arith, prefix_len-le-length (λ byte. not (is_feed byte)) text) in
        let whole : line_of text ≡ text = take_all (position_or_len is_feed text) text more in
        let nothing : after_line text ≡ [] = drop_all (position_or_len is_feed text + 1) text (omega arith) in
        rw (whole, nothing) (lines_last text some end)

-- an empty text has no lines
pub none-left : (text : List ℕ) → length text ≡ 0 → lines_of text ≡ []
none-left [] none = refl
none-left (byte ∷ text) none = absurd (omega arith)

-- what stands after a line is shorter
pub after_line-shorter : (text : List ℕ) → 0 < length text → length (after_line text) < length text
after_line-shorter text some = omega (arith, length-drop (position_or_len is_feed text + 1) text)

-- so each text begins with a line but the empty one
pub texts-begin-with-lines : TextsBeginWithLines
texts-begin-with-lines text some =
    record { lines = lines_of-some text some; shorter = after_line-shorter text some }

-- Where lines begin, and what stands from there on.
use Rattle.std.proofs.Common.{◌≡◌, ℕ, zero, suc, ◌+◌, ◌-◌, ◌<◌, ◌≤◌, Bool, true, false, cond, not, List, [], ◌∷◌, ◌++◌, length, take, drop, ◌⊎◌, inl, inr, refl, ap, sym, ◌∙◌, arith}
use Rattle.std.specs.Prelude.{min}
use Rattle.std.specs.List.{position_or_len}
use Rattle.std.proofs.Math.Nat.{min-eq_left, min-eq_right, min-le_right, zero-min}
use Rattle.std.proofs.lemmas.Bool.{cases_lt}
use Rattle.std.proofs.lemmas.List.{take_all, drop_all, drop-drop, length-append, length-drop, length-take}
use Rattle.clause_reader.specs.LineLaws.{ended}
use Rattle.clause_reader.specs.Lines.{is_feed, line_of, lines_of}
use Rattle.clause_reader.specs.Scan.{after_line}
use Rattle.edit_script.specs.Marks.{line_start}
use Rattle.clause_reader.proofs.LineSplits.{texts-begin-with-lines}

-- what stands from the line at a place on
abbrev pub from_line : List ℕ → ℕ → List ℕ
from_line text n = drop (line_start text n) text

-- where a line begins is in the text, or at its end
pub line_start-within : (text : List ℕ) (n : ℕ) → line_start text n ≤ length text
line_start-within text n = min-le_right (length (ended (take n (lines_of text)))) (length text)

-- the place of the least
min_sum : (a b c : ℕ) → min (a + b) (a + c) ≡ a + min b c
min_sum a b c = by (cases_lt b c)
  where
    by : (b < c) ⊎ (c ≤ b) → min (a + b) (a + c) ≡ a + min b c
    by (inl less) = let i : b ≤ c = omega arith in let h : a + b ≤ a + c = omega arith in min-eq_left h ∙ ap (λ n. a + n) (sym (min-eq_left i))
    by (inr more) = let h : a + c ≤ a + b = omega arith in min-eq_right h ∙ ap (λ n. a + n) (sym (min-eq_right more))

-- the lines up to a place, and the first of them
ended-suc : (text : List ℕ) (n : ℕ) → 0 < length text
    → length (ended (take (suc n) (lines_of text))) ≡ length (line_of text) + 1 + length (ended (take n (lines_of (after_line text))))
ended-suc text n some =
    ap (λ (lines : List (List ℕ)). length (ended (take (suc n) lines))) ((texts-begin-with-lines text some).lines)
    ∙ length-append (line_of text ++ 10 ∷ []) (ended (take n (lines_of (after_line text))))
    ∙ ap (λ k. k + length (ended (take n (lines_of (after_line text))))) (length-append (line_of text) (10 ∷ []))

-- where a later line begins: a line feed ends the first one, or no line follows it
abbrev StartsLater : List ℕ → ℕ → Type 0
StartsLater text n =
    ((position_or_len is_feed text < length text) × (line_start text (suc n) ≡ position_or_len is_feed text + 1 + line_start (after_line text) n))
    ⊎ ((line_start text (suc n) ≡ length text) × (after_line text ≡ []))

starts-later : (text : List ℕ) (n : ℕ) → 0 < length text → StartsLater text n
starts-later text n some = by (cases_lt (position_or_len is_feed text) (length text))
  where
    by : (position_or_len is_feed text < length text) ⊎ (length text ≤ position_or_len is_feed text) → StartsLater text n
    by (inl less) =
        let le : position_or_len is_feed text ≤ length text = omega arith in
        let line : length (line_of text) ≡ position_or_len is_feed text = length-take (position_or_len is_feed text) text ∙ min-eq_left le in
        let left : length text ≡ (position_or_len is_feed text + 1) + length (after_line text) = omega (arith, length-drop (position_or_len is_feed text + 1) text) in
        let front : length (ended (take (suc n) (lines_of text))) ≡ (position_or_len is_feed text + 1) + length (ended (take n (lines_of (after_line text)))) =
        ended-suc text n some ∙ ap (λ k. k + 1 + length (ended (take n (lines_of (after_line text))))) line in
        inl (
          less,
          ap (λ k. min k (length text)) front ∙ ap (λ k. min ((position_or_len is_feed text + 1) + length (ended (take n (lines_of (after_line text))))) k) left
              ∙ min_sum (position_or_len is_feed text + 1) (length (ended (take n (lines_of (after_line text))))) (length (after_line text)),
        )
    by (inr more) =
        let line : length (line_of text) ≡ length text = ap length (take_all (position_or_len is_feed text) text more) in
        let long : length text ≤ length (ended (take (suc n) (lines_of text))) = omega (arith, ended-suc text n some, line) in
        inr (min-eq_right long, drop_all (position_or_len is_feed text + 1) text (omega arith))

-- what stands from a later line on stands so after the first line
from_line-later : (text : List ℕ) (n : ℕ) → 0 < length text → from_line text (suc n) ≡ from_line (after_line text) n
from_line-later text n some = by (starts-later text n some)
  where
    by : StartsLater text n → from_line text (suc n) ≡ from_line (after_line text) n
    by (inl (less, start)) = ap (λ k. drop k text) start ∙ sym (drop-drop (line_start (after_line text) n) (position_or_len is_feed text + 1) text)
    by (inr (start, nothing)) =
        let none : length (after_line text) ≡ 0 = ap length nothing in
        let short : length text ≤ line_start text (suc n) = omega (arith, start) in
        drop_all (line_start text (suc n)) text short ∙ sym (drop_all (line_start (after_line text) n) (after_line text) (omega arith))

-- nothing stands in an empty text
from_line-suc : (text : List ℕ) (n : ℕ) → from_line text (suc n) ≡ from_line (after_line text) n
from_line-suc [] n = sym (drop_all (line_start [] n) [] (omega arith))
from_line-suc (byte ∷ others) n = from_line-later (byte ∷ others) n (omega arith)

pub from_line-zero : (text : List ℕ) → from_line text 0 ≡ text
from_line-zero text = ap (λ n. drop n text) (zero-min (length text))

-- from the next line on stands what stands after a line
pub from_line-next : (text : List ℕ) (n : ℕ) → from_line text (n + 1) ≡ after_line (from_line text n)
from_line-next text zero = from_line-suc text 0 ∙ from_line-zero (after_line text) ∙ ap after_line (sym (from_line-zero text))
from_line-next text (suc n) =
    let one : suc n + 1 ≡ suc (n + 1) = omega arith in
    rw one (from_line-suc text (n + 1) ∙ from_line-next (after_line text) n ∙ ap after_line (sym (from_line-suc text n)))

-- the lines of what stands from a line on are the lines from there on
pub lines_of-from_line : (text : List ℕ) (n : ℕ) → lines_of (from_line text n) ≡ drop n (lines_of text)
lines_of-from_line text zero = ap lines_of (from_line-zero text)
lines_of-from_line [] (suc n) = refl
lines_of-from_line (byte ∷ others) (suc n) =
    ap lines_of (from_line-suc (byte ∷ others) n) ∙ lines_of-from_line (after_line (byte ∷ others)) n
    ∙ sym (ap (drop (suc n)) ((texts-begin-with-lines (byte ∷ others) (omega arith)).lines))

-- how far what stands from a line on is from the end
pub from_line-start : (text rest : List ℕ) (n : ℕ) → rest ≡ from_line text n → length text - length rest ≡ line_start text n
from_line-start text rest n is = omega (arith, ap length is, length-drop (line_start text n) text, line_start-within text n)

-- a line feed ends the first line
lines_of-front : (text : List ℕ) (k : ℕ) → position_or_len is_feed text < length text
    → lines_of (take (position_or_len is_feed text + 1 + k) text) ≡ line_of text ∷ lines_of (take k (after_line text))
lines_of-front [] k less = absurd (omega arith)
lines_of-front (byte ∷ others) k less = by (is_feed byte) refl less (λ h. lines_of-front others k h)
  where
    by : (f : Bool) → is_feed byte ≡ f → cond (not f) (1 + position_or_len is_feed others) 0 < length (byte ∷ others)
        → (position_or_len is_feed others < length others
        → lines_of (take (position_or_len is_feed others + 1 + k) others) ≡ take (position_or_len is_feed others) others ∷ lines_of (take k (drop (position_or_len is_feed others + 1) others)))
        → lines_of (take (cond (not f) (1 + position_or_len is_feed others) 0 + 1 + k) (byte ∷ others))
        ≡ take (cond (not f) (1 + position_or_len is_feed others) 0) (byte ∷ others) ∷ lines_of (take k (drop (cond (not f) (1 + position_or_len is_feed others) 0 + 1) (byte ∷ others)))
    by true is h later =
        let one : 0 + 1 + k ≡ suc k = omega arith in
        rw (one, is) refl
    by false is h later =
        let one : 1 + position_or_len is_feed others + 1 + k ≡ suc (position_or_len is_feed others + 1 + k) = omega arith in
        let two : 1 + position_or_len is_feed others ≡ suc (position_or_len is_feed others) = omega arith in
        let three : suc (position_or_len is_feed others) + 1 ≡ suc (position_or_len is_feed others + 1) = omega arith in
        rw (one, two, three, is, later (omega arith)) refl

-- nothing is taken of nothing
-- the lines of what stands before a line are the lines before it
pub lines_of-before : (text : List ℕ) (n : ℕ) → lines_of (take (line_start text n) text) ≡ take n (lines_of text)
lines_of-before text zero = ap (λ k. lines_of (take k text)) (zero-min (length text))
lines_of-before [] (suc n) = ap lines_of (take_all (line_start [] (suc n)) [] (omega arith))
lines_of-before (byte ∷ others) (suc n) = by (byte ∷ others) (omega arith) (starts-later (byte ∷ others) n (omega arith)) (lines_of-before (after_line (byte ∷ others)) n)
  where
    by : (text : List ℕ) → 0 < length text → StartsLater text n → lines_of (take (line_start (after_line text) n) (after_line text)) ≡ take n (lines_of (after_line text))
        → lines_of (take (line_start text (suc n)) text) ≡ take (suc n) (lines_of text)
    by text some (inl (less, start)) later =
        ap (λ k. lines_of (take k text)) start ∙ lines_of-front text (line_start (after_line text) n) less ∙ ap (λ (lines : List (List ℕ)). line_of text ∷ lines) later
        ∙ sym (ap (take (suc n)) ((texts-begin-with-lines text some).lines))
    by text some (inr (start, nothing)) later =
        let single : lines_of text ≡ line_of text ∷ [] = (texts-begin-with-lines text some).lines ∙ ap (λ rest. line_of text ∷ lines_of rest) nothing in
        let all : length text ≤ length text = omega arith in
        ap (λ k. lines_of (take k text)) start ∙ ap lines_of (take_all (length text) text all) ∙ single ∙ ap (λ (lines : List (List ℕ)). line_of text ∷ lines) (sym (take_all n [] (omega arith)))
        ∙ sym (ap (take (suc n)) single)

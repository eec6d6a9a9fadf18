-- How the first mark line is found among the lines.
use Rattle.std.proofs.Common.{◌≡◌, ℕ, suc, ◌+◌, ◌<◌, ◌≤◌, Bool, true, false, cond, not, ◌&&◌, ◌||◌, List, [], ◌∷◌, length, drop, get_or, Some, None, refl, ap, sym, ◌∙◌, arith, nat_lt}
use Rattle.memchr.specs.Find.{IsFirstByte, is_byte}
use Rattle.std.specs.List.{position_or_len}
use Rattle.std.proofs.lemmas.List.{drop_all}
use Rattle.std.proofs.lemmas.List.Sums.{position_or_len_is}
use Rattle.std.proofs.lemmas.Bool.Decides.{nat_tests}
use Rattle.std.specs.Prelude.{◌==◌}
use Rattle.solid_model.specs.Names.{is_blank}
use Rattle.clause_reader.specs.Lines.{is_feed, line_of, lines_of, onto_first, tokens_of}
use Rattle.clause_reader.specs.Scan.{after_line, line_tokens}
use Rattle.edit_script.specs.Marks.{begins_other, is_mark, mark_place}
use Rattle.edit_script.proofs.LineStarts.{from_line, from_line-next, from_line-zero}
use Rattle.clause_reader.proofs.LineSplits.{none-left, texts-begin-with-lines}

abbrev marks : List ℕ → Bool
marks line = is_mark (tokens_of line)

-- the lines before the rest hold no mark line
pub record Passed (input : List ℕ) (n : ℕ) (rest : List ℕ) : Type 0 where
  pub from : rest ≡ from_line input n
  pub place : position_or_len (λ line. is_mark (tokens_of line)) (lines_of input) ≡ n + position_or_len (λ line. is_mark (tokens_of line)) (lines_of rest)
  pub total : length (lines_of input) ≡ n + length (lines_of rest)
  pub few : n + length rest ≤ length input

pub passed-none : (input : List ℕ) → Passed input 0 input
passed-none input = record { from = sym (from_line-zero input); place = omega arith; total = omega arith; few = omega arith }

-- one line more, which is no mark
pub passed-more : (input : List ℕ) (n : ℕ) (rest : List ℕ) → Passed input n rest → 0 < length rest → is_mark (line_tokens rest) ≡ false
    → Passed input (n + 1) (after_line rest)
passed-more input n rest passed some other =
    let first = texts-begin-with-lines rest some in
    let here : position_or_len marks (lines_of rest) ≡ 1 + position_or_len marks (lines_of (after_line rest)) =
    ap (position_or_len marks) first.lines ∙ rw other refl in
    record {
      from = ap after_line passed.from ∙ sym (from_line-next input n);
      place = omega (arith, passed.place, here);
      total = omega (arith, passed.total, ap length first.lines);
      few = omega (arith, passed.few, first.shorter);
    }

place_some : (p total : ℕ) → p < total → cond (nat_lt p total) (Some p) None ≡ Some p
place_some p total less = grind (arith, nat_tests)

place_none : (p total : ℕ) → total ≤ p → cond (nat_lt p total) (Some p) None ≡ None
place_none p total more = grind (arith, nat_tests)

-- the mark line
pub passed-mark : (input : List ℕ) (n : ℕ) (rest : List ℕ) → Passed input n rest → 0 < length rest → is_mark (line_tokens rest) ≡ true → Some n ≡ mark_place input
passed-mark input n rest passed some mark =
    let split = (texts-begin-with-lines rest some).lines in
    let here : position_or_len marks (lines_of rest) ≡ 0 = ap (position_or_len marks) split ∙ rw mark refl in
    let place : position_or_len marks (lines_of input) ≡ n = omega (arith, passed.place, here) in
    let within : position_or_len marks (lines_of input) < length (lines_of input) = omega (arith, passed.total, place, ap length split) in
    sym (place_some (position_or_len marks (lines_of input)) (length (lines_of input)) within ∙ ap Some place)

-- and none, where nothing is left
pub passed-all : (input : List ℕ) (n : ℕ) (rest : List ℕ) → Passed input n rest → length rest ≡ 0 → None ≡ mark_place input
passed-all input n rest passed none =
    let nothing = none-left rest none in
    let total : length (lines_of input) ≡ n = omega (arith, passed.total, ap length nothing) in
    let more : length (lines_of input) ≤ position_or_len marks (lines_of input) = omega (arith, passed.place, total) in
    sym (place_none (position_or_len marks (lines_of input)) (length (lines_of input)) more)

-- tokens of which the first begins with another byte than the sign of a mark
other-token : (byte : ℕ) (token : List ℕ) (others : List (List ℕ)) → (byte == 37) ≡ false → is_mark ((byte ∷ token) ∷ others) ≡ false
other-token byte token [] other = rw other refl
other-token byte token (next ∷ others) other = refl

onto_first-other : (byte : ℕ) (tokens : List (List ℕ)) → (byte == 37) ≡ false → is_mark (onto_first byte tokens) ≡ false
onto_first-other byte [] other = other-token byte [] [] other
onto_first-other byte (first ∷ others) other = other-token byte first others other

-- a line that begins with such a byte
tokens_of-other : (byte : ℕ) (line : List ℕ) → is_blank byte ≡ false → (byte == 37) ≡ false → is_mark (tokens_of (byte ∷ line)) ≡ false
tokens_of-other byte [] solid other = rw solid (other-token byte [] [] other)
tokens_of-other byte (next ∷ rest) solid other = rw solid (by (is_blank next))
  where
    by : (b : Bool) → is_mark (cond b ((byte ∷ []) ∷ tokens_of (next ∷ rest)) (onto_first byte (tokens_of (next ∷ rest)))) ≡ false
    by true = other-token byte [] (tokens_of (next ∷ rest)) other
    by false = onto_first-other byte (tokens_of (next ∷ rest)) other

-- a text that begins with another byte of a token than the sign of a mark begins with no mark line
pub other_line : (text : List ℕ) → begins_other text ≡ true → is_mark (line_tokens text) ≡ false
other_line [] begins = cc
other_line (byte ∷ rest) begins = by (is_blank byte) (is_feed byte) (byte == 37) refl refl refl begins
  where
    by : (b f o : Bool) → is_blank byte ≡ b → is_feed byte ≡ f → (byte == 37) ≡ o → (not (b || f) && not o) ≡ true → is_mark (line_tokens (byte ∷ rest)) ≡ false
    by true f o blank feed other h = cc
    by false true o blank feed other h = cc
    by false false true blank feed other h = cc
    by false false false blank feed other h =
        let one : 1 + position_or_len is_feed rest ≡ suc (position_or_len is_feed rest) = omega arith in
        let line : line_of (byte ∷ rest) ≡ byte ∷ line_of rest = rw (feed, one) refl in
        ap (λ (l : List ℕ). is_mark (tokens_of l)) line ∙ tokens_of-other byte (line_of rest) blank other

-- the first line feed, as a search finds it
not_true : (b : Bool) → ¬ (b ≡ true) → b ≡ false
not_true true other = absurd (other refl)
not_true false other = refl

feed_place : (text : List ℕ) (k : ℕ) → IsFirstByte (is_byte 10) text (Some k) → position_or_len is_feed text ≡ k
feed_place text k found =
    position_or_len_is is_feed text k 0 (omega (arith, found.0.high)) (λ j less. not_true (is_feed (get_or text j 0)) (found.0.before j (omega arith) less)) (λ _. found.1)

no_feed_place : (text : List ℕ) → IsFirstByte (is_byte 10) text None → position_or_len is_feed text ≡ length text
no_feed_place text none =
    position_or_len_is is_feed text (length text) 0 (omega arith) (λ j less. not_true (is_feed (get_or text j 0)) (none j (omega arith) less)) (λ more. absurd (omega arith))

-- what stands after the first line
pub after_feed : (text : List ℕ) (k : ℕ) → IsFirstByte (is_byte 10) text (Some k) → drop (k + 1) text ≡ after_line text
after_feed text k found = ap (λ n. drop (n + 1) text) (sym (feed_place text k found))

pub after_all : (text : List ℕ) → IsFirstByte (is_byte 10) text None → [] ≡ after_line text
after_all text none =
    let all : length text ≤ position_or_len is_feed text + 1 = omega (arith, no_feed_place text none) in
    sym (drop_all (position_or_len is_feed text + 1) text all)

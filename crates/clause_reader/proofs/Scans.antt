-- A token that is split off bytes is the first token of the line with which they begin.
use Rattle.std.proofs.Common.{◌≡◌, ℕ, zero, suc, zero-add, ◌+◌, ◌-◌, ◌<◌, ◌≤◌, Bool, true, false, cond, not, ◌&&◌, ◌||◌, List, [], ◌∷◌, ◌++◌, length, take, drop, append-nil, refl, ap, sym, subst, ◌∙◌, arith}
use Rattle.std.specs.Prelude.{slice_range}
use Rattle.std.specs.List.{list_all, position_or_len}
use Rattle.std.proofs.lemmas.Bool.{eqb-true}
use Rattle.std.proofs.lemmas.List.{take-append-drop, drop-drop, length-append, length-drop}
use Rattle.std.proofs.lemmas.List.Elements.{All-weaker}
use Rattle.std.proofs.lemmas.List.Sums.{AllPass-from_list_all, list_all-from_AllPass}
use Rattle.std.proofs.Math.Seq.{take-append_seam, drop-append_seam, drop-append-add}
use Rattle.solid_model.specs.Names.{is_blank, is_token_byte}
use Rattle.clause_reader.specs.LineLaws.{AreBlanks, HasNoBlank, EndsToken}
use Rattle.clause_reader.specs.Lines.{is_feed, line_of, tokens_of}
use Rattle.clause_reader.specs.Scan.{after_line, line_tokens, BeginsSolid, SkipsBlanks, SplitsRun}
use Rattle.clause_reader.specs.Tokens.{AreTokenBytes, EndsRun, IsTokenAt}
use Rattle.clause_reader.proofs.Runs.{Stops, run-passes, run-stops, run-not_not}
use Rattle.clause_reader.proofs.TokenLemmas.{tokens_of-blanks, tokens_of-token}

-- what a blank and a token byte are not
blank-no_feed : (byte : ℕ) → is_blank byte ≡ true → is_feed byte ≡ false
blank-no_feed byte blank = by (is_feed byte) refl
  where
    by : (b : Bool) → is_feed byte ≡ b → is_feed byte ≡ false
    by true e = let ten = eqb-true byte 10 e in let is : is_blank 10 ≡ true = subst (λ n. is_blank n ≡ true) ten blank in (cc)
    by false e = e

token-no_feed : (byte : ℕ) → is_token_byte byte ≡ true → is_feed byte ≡ false
token-no_feed byte token = by (is_feed byte) refl
  where
    by : (b : Bool) → is_feed byte ≡ b → is_feed byte ≡ false
    by true e = let ten = eqb-true byte 10 e in let is : is_token_byte 10 ≡ true = subst (λ n. is_token_byte n ≡ true) ten token in (cc)
    by false e = e

token-no_blank : (byte : ℕ) → is_token_byte byte ≡ true → is_blank byte ≡ false
token-no_blank byte token = by (is_blank byte) (is_feed byte) refl token
  where
    by : (b f : Bool) → is_blank byte ≡ b → not (b || f) ≡ true → is_blank byte ≡ false
    by true f e h = (cc)
    by false f e h = e

-- what ends a run and is no line feed is a blank, and what is no blank is a line feed
end-blank : (byte : ℕ) → is_token_byte byte ≡ false → is_feed byte ≡ false → is_blank byte ≡ true
end-blank byte ends other = by (is_blank byte) (is_feed byte) refl refl ends other
  where
    by : (b f : Bool) → is_blank byte ≡ b → is_feed byte ≡ f → not (b || f) ≡ false → f ≡ false → is_blank byte ≡ true
    by true f e g h o = e
    by false true e g h o = (cc)
    by false false e g h o = (cc)

end-feed : (byte : ℕ) → is_token_byte byte ≡ false → is_blank byte ≡ false → is_feed byte ≡ true
end-feed byte ends other = by (is_blank byte) (is_feed byte) refl refl ends other
  where
    by : (b f : Bool) → is_blank byte ≡ b → is_feed byte ≡ f → not (b || f) ≡ false → b ≡ false → is_feed byte ≡ true
    by true f e g h o = (cc)
    by false true e g h o = g
    by false false e g h o = (cc)

-- no byte is a line feed, as a test
abbrev no_feed : List ℕ → Bool
no_feed bytes = list_all (λ byte. not (is_feed byte)) bytes

no_feed-from : (p : ℕ → Bool) (bytes : List ℕ) → ((byte : ℕ) → p byte ≡ true → is_feed byte ≡ false) → list_all p bytes ≡ true → no_feed bytes ≡ true
no_feed-from p [] other all = refl
no_feed-from p (byte ∷ bytes) other all = by (p byte) (list_all p bytes) refl refl all (λ later. no_feed-from p bytes other later)
  where
    by : (b c : Bool) → p byte ≡ b → list_all p bytes ≡ c → (b && c) ≡ true → (list_all p bytes ≡ true → no_feed bytes ≡ true) → no_feed (byte ∷ bytes) ≡ true
    by true true here later h more = rw (other byte here) (more later)
    by true false here later h more = (cc)
    by false c here later h more = (cc)

-- bytes without a line feed stand at the front of the line
abbrev InFront : List ℕ → List ℕ → Type 0
InFront front bytes = (line_of (front ++ bytes) ≡ front ++ line_of bytes) × (after_line (front ++ bytes) ≡ after_line bytes)

line_of-append : (front bytes : List ℕ) → no_feed front ≡ true → InFront front bytes
line_of-append [] bytes all = (refl, refl)
line_of-append (byte ∷ front) bytes all = by (is_feed byte) (no_feed front) refl refl all (λ later. line_of-append front bytes later)
  where
    by : (f c : Bool) → is_feed byte ≡ f → no_feed front ≡ c → (not f && c) ≡ true → (no_feed front ≡ true → InFront front bytes) → InFront (byte ∷ front) bytes
    by true c here later h more = (cc)
    by false false here later h more = (cc)
    by false true here later h more =
        let rest = more later in
        let one : 1 + position_or_len is_feed (front ++ bytes) ≡ suc (position_or_len is_feed (front ++ bytes)) = omega arith in
        let two : suc (position_or_len is_feed (front ++ bytes)) + 1 ≡ suc (position_or_len is_feed (front ++ bytes) + 1) = omega arith in
        (rw (here, one) (ap (λ line. byte ∷ line) rest.0), rw (here, one, two) rest.1)

-- what ends a run ends a token of the line
EndsToken-run : (rest : List ℕ) → EndsRun rest → EndsToken (line_of rest)
EndsToken-run [] ends = tt
EndsToken-run (byte ∷ rest) ends = by (is_feed byte) refl
  where
    by : (f : Bool) → is_feed byte ≡ f → EndsToken (take (cond (not f) (1 + position_or_len is_feed rest) 0) (byte ∷ rest))
    by true e = tt
    by false e = let one : 1 + position_or_len is_feed rest ≡ suc (position_or_len is_feed rest) = omega arith in rw one (end-blank byte ends e)

-- and what begins with no blank and ends a run begins with the end of the line
line_of-end : (rest : List ℕ) → BeginsSolid rest → EndsRun rest → line_of rest ≡ []
line_of-end [] solid ends = refl
line_of-end (byte ∷ rest) solid ends = let feed = end-feed byte ends solid in rw feed refl

blanks-no_feed : (gap : List ℕ) → AreBlanks gap → no_feed gap ≡ true
blanks-no_feed gap blanks = no_feed-from is_blank gap blank-no_feed (list_all-from_AllPass is_blank gap blanks)

-- where only blanks stand up to what ends a run, the line is blanks
pub no_token : (text rest : List ℕ) → SkipsBlanks text rest → EndsRun rest → AreBlanks (line_of text)
no_token text rest skip ends =
    let line = (line_of-append skip.gap rest (blanks-no_feed skip.gap skip.blanks)).0 in
    let none = line_of-end rest skip.solid ends in
    let is : line_of text ≡ skip.gap = ap line_of skip.parts ∙ line ∙ ap (λ end. skip.gap ++ end) none ∙ append-nil skip.gap in
    subst AreBlanks (sym is) skip.blanks

pub no_tokens : (text rest : List ℕ) → SkipsBlanks text rest → EndsRun rest → line_tokens text ≡ []
no_tokens text rest skip ends =
    let blanks = no_token text rest skip ends in
    ap tokens_of (sym (append-nil (line_of text))) ∙ tokens_of-blanks (line_of text) [] blanks

-- what is split off stands at the front of the line
line_of-parts : (text gap token rest : List ℕ) → text ≡ gap ++ (token ++ rest) → AreBlanks gap → AreTokenBytes token
    → (line_of text ≡ gap ++ (token ++ line_of rest)) × (after_line rest ≡ after_line text)
line_of-parts text gap token rest parts blanks all =
    let first = line_of-append gap (token ++ rest) (blanks-no_feed gap blanks) in
    let second = line_of-append token rest (no_feed-from is_token_byte token token-no_feed all) in
    (ap line_of parts ∙ first.0 ∙ ap (λ end. gap ++ end) second.0, sym (ap after_line parts ∙ first.1 ∙ second.1))

pub after-token : (text gap token rest : List ℕ) → text ≡ gap ++ (token ++ rest) → AreBlanks gap → AreTokenBytes token → after_line rest ≡ after_line text
after-token text gap token rest parts blanks all = (line_of-parts text gap token rest parts blanks all).1

-- it is the first token of the line
pub first-token : (text gap token rest : List ℕ) → text ≡ gap ++ (token ++ rest) → AreBlanks gap → AreTokenBytes token → EndsRun rest → 0 < length token
    → line_tokens text ≡ token ∷ line_tokens rest
first-token text gap token rest parts blanks all ends some =
    let no_blank : HasNoBlank token = All-weaker (λ byte. is_token_byte byte ≡ true) (λ byte. is_blank byte ≡ false) token-no_blank token (AllPass-from_list_all is_token_byte token all) in
    ap tokens_of (line_of-parts text gap token rest parts blanks all).0 ∙ tokens_of-blanks gap (token ++ line_of rest) blanks
    ∙ tokens_of-token token (line_of rest) some no_blank (EndsToken-run rest ends)

-- an empty run ends at once
pub empty-run : (bytes run rest : List ℕ) → SplitsRun bytes run rest → length run ≡ 0 → EndsRun bytes
empty-run bytes [] rest split none = subst EndsRun (sym split.parts) split.longest
empty-run bytes (byte ∷ run) rest split none = absurd (omega arith)

-- the places of what is split off
pub token-places : (bytes : List ℕ) (from : ℕ) (gap token rest : List ℕ) → from ≤ length bytes → drop from bytes ≡ gap ++ (token ++ rest) → AreBlanks gap → AreTokenBytes token
    → EndsRun rest → 0 < length token
    → (length token ≤ length bytes - length rest) × IsTokenAt bytes from (length bytes - length rest - length token) (length bytes - length rest)
    × (slice_range bytes (length bytes - length rest - length token) (length bytes - length rest) ≡ token) × (drop (length bytes - length rest) bytes ≡ rest)
token-places bytes from gap token rest within parts blanks all ends some =
    let total : length bytes - from ≡ length gap + (length token + length rest) =
    sym (length-drop from bytes) ∙ ap length parts ∙ length-append gap (token ++ rest) ∙ ap (λ n. length gap + n) (length-append token rest) in
    let end : length bytes - length rest ≡ from + (length gap + length token) = omega arith in
    let start : length bytes - length rest - length token ≡ from + length gap = omega arith in
    let at_start : drop (length bytes - length rest - length token) bytes ≡ token ++ rest =
    rw start (sym (drop-drop (length gap) from bytes) ∙ ap (drop (length gap)) parts ∙ drop-append_seam gap (token ++ rest)) in
    let at_end : drop (length bytes - length rest) bytes ≡ rest =
    rw end (sym (drop-drop (length gap + length token) from bytes) ∙ ap (drop (length gap + length token)) parts ∙ drop-append-add gap (token ++ rest) (length token) ∙ drop-append_seam token rest) in
    let long : length bytes - length rest - (length bytes - length rest - length token) ≡ length token = omega arith in
    let is : slice_range bytes (length bytes - length rest - length token) (length bytes - length rest) ≡ token =
    rw (long, at_start) (take-append_seam token rest) in
    let wide : length bytes - length rest - length token - from ≡ length gap = omega arith in
    let before : slice_range bytes from (length bytes - length rest - length token) ≡ gap = rw (wide, parts) (take-append_seam gap (token ++ rest)) in (
      omega arith,
      record {
        after = omega arith;
        some = omega arith;
        within = omega arith;
        gap = subst AreBlanks (sym before) blanks;
        token = subst AreTokenBytes (sym is) all;
        longest = subst EndsRun (sym at_end) ends;
      },
      is,
      at_end,
    )

-- the blanks with which bytes begin are the longest run of them
pub skips-blanks : (bytes : List ℕ) → SkipsBlanks bytes (drop (position_or_len (λ byte. not (is_blank byte)) bytes) bytes)
skips-blanks bytes =
    let n = position_or_len (λ byte. not (is_blank byte)) bytes in
    let same = run-not_not is_blank bytes in
    record {
      gap = take n bytes;
      parts = sym (take-append-drop n bytes);
      blanks = AllPass-from_list_all is_blank (take n bytes) (rw same (run-passes is_blank bytes));
      solid = solid (drop n bytes) (rw same (run-stops is_blank bytes));
    }
  where
    solid : (rest : List ℕ) → Stops is_blank rest → BeginsSolid rest
    solid [] stops = tt
    solid (byte ∷ rest) stops = stops

-- and so is a token
pub splits-run : (bytes : List ℕ) → SplitsRun bytes (take (position_or_len (λ byte. not (is_token_byte byte)) bytes) bytes) (drop (position_or_len (λ byte. not (is_token_byte byte)) bytes) bytes)
splits-run bytes =
    let n = position_or_len (λ byte. not (is_token_byte byte)) bytes in
    let same = run-not_not is_token_byte bytes in
    record {
      parts = sym (take-append-drop n bytes);
      token = rw same (run-passes is_token_byte bytes);
      longest = ends (drop n bytes) (rw same (run-stops is_token_byte bytes));
    }
  where
    ends : (rest : List ℕ) → Stops is_token_byte rest → EndsRun rest
    ends [] stops = tt
    ends (byte ∷ rest) stops = stops

-- The lines and the tokens of some small texts, shown by the relations alone.
use Rattle.std.proofs.Common.{◌≡◌, ◌≢◌, ℕ, Bool, true, false, not, eqb, List, [], ◌∷◌, ◌++◌, refl, subst, arith}
use Rattle.std.specs.Prelude.{All, codes}
use Rattle.std.specs.List.{list_all}
use Rattle.std.proofs.lemmas.Bool.{eqb-false, not-true}
use Rattle.std.proofs.lemmas.List.Elements.{All-head, All-weaker}
use Rattle.std.proofs.lemmas.List.Sums.{AllPass-from_list_all}
use Rattle.solid_model.specs.Names.{is_blank}
use Rattle.clause_reader.specs.declared.comments.Comments.TheVariants.{Skipped, Kept}
use Rattle.clause_reader.specs.declared.line.Line.{Line}
use Rattle.clause_reader.specs.LineLaws.{HasNoFeed, AreLines, AreBlanks, HasNoBlank, EndsToken, Spaced}
use Rattle.clause_reader.specs.NumberedLines.{given_lines, line_seen}

abbrev is_no_feed : ℕ → Bool
is_no_feed byte = not (eqb byte 10)

abbrev is_no_blank : ℕ → Bool
is_no_blank byte = not (is_blank byte)

-- the facts on each byte, from a test that computes
no_feed : (bytes : List ℕ) → list_all is_no_feed bytes ≡ true → HasNoFeed bytes
no_feed bytes e =
    All-weaker (λ byte. is_no_feed byte ≡ true) (λ byte. byte ≢ 10) (λ byte h. eqb-false byte 10 (not-true (eqb byte 10) h)) bytes (AllPass-from_list_all is_no_feed bytes e)

whole : (lines : List (List ℕ)) → list_all (λ line. list_all is_no_feed line) lines ≡ true → All HasNoFeed lines
whole lines e =
    All-weaker (λ line. list_all is_no_feed line ≡ true) HasNoFeed no_feed lines (AllPass-from_list_all (λ line. list_all is_no_feed line) lines e)

blanks : (bytes : List ℕ) → list_all is_blank bytes ≡ true → AreBlanks bytes
blanks bytes e = AllPass-from_list_all is_blank bytes e

no_blank : (bytes : List ℕ) → list_all is_no_blank bytes ≡ true → HasNoBlank bytes
no_blank bytes e =
    All-weaker (λ byte. is_no_blank byte ≡ true) (λ byte. is_blank byte ≡ false) (λ byte h. not-true (is_blank byte) h) bytes (AllPass-from_list_all is_no_blank bytes e)

empty_text_has_no_line : AreLines [] []
empty_text_has_no_line = record { whole = whole [] refl; joined = refl }

lone_feed_is_an_empty_line : AreLines (codes "\n") ([] ∷ [])
lone_feed_is_an_empty_line = record { whole = whole ([] ∷ []) refl; joined = refl }

three_lines : AreLines (codes "a\n\nbc\n") (codes "a" ∷ [] ∷ codes "bc" ∷ [])
three_lines = record { whole = whole (codes "a" ∷ [] ∷ codes "bc" ∷ []) refl; joined = refl }

last_feed_may_lack : AreLines (codes "a\n\nbc") (codes "a" ∷ [] ∷ codes "bc" ∷ [])
last_feed_may_lack = record { whole = whole (codes "a" ∷ [] ∷ codes "bc" ∷ []) refl; joined = refl }

-- the last line feed begins no empty line
no_line_after_the_last_feed : AreLines (codes "a\n") (codes "a" ∷ [] ∷ []) → ⊥
no_line_after_the_last_feed are = let joined : codes "a\n\n" ≡ codes "a\n" = are.joined in (cc)

-- two lines are not one that holds a line feed
two_lines_are_not_one : AreLines (codes "a\nb\n") (codes "a\nb" ∷ []) → ⊥
two_lines_are_not_one are =
    let first : HasNoFeed (codes "a\nb") = All-head HasNoFeed (codes "a\nb") [] are.whole in first 1 0 (omega arith) refl

blanks_are_no_token : Spaced (codes " \t\r ") []
blanks_are_no_token = blanks (codes " \t\r ") refl

two_tokens : Spaced (codes "  a\tbc\r") (codes "a" ∷ codes "bc" ∷ [])
two_tokens = (
  codes "\tbc\r",
  record {
    gap = codes "  ";
    parts = refl;
    blanks = blanks (codes "  ") refl;
    some = omega arith;
    no_blank = no_blank (codes "a") refl;
    longest = refl;
  },
  (
    codes "\r",
    record {
      gap = codes "\t";
      parts = refl;
      blanks = blanks (codes "\t") refl;
      some = omega arith;
      no_blank = no_blank (codes "bc") refl;
      longest = refl;
    },
    blanks (codes "\r") refl,
  ),
)

-- a token that ends with the line
token_to_the_end : Spaced (codes "#a") (codes "#a" ∷ [])
token_to_the_end = (
  [],
  record {
    gap = [];
    parts = refl;
    blanks = blanks [] refl;
    some = omega arith;
    no_blank = no_blank (codes "#a") refl;
    longest = tt;
  },
  blanks [] refl,
)

-- a run of bytes that are no blanks is one token, and not its first byte and the rest
run_is_not_cut : Spaced (codes "ab") (codes "a" ∷ codes "b" ∷ []) → ⊥
run_is_not_cut (rest, first, later) = by first.gap first.parts first.blanks
  where
    by : (gap : List ℕ) → codes "ab" ≡ gap ++ (codes "a" ++ rest) → AreBlanks gap → ⊥
    by [] parts all = let same : rest ≡ codes "b" = cc in let blank : EndsToken (codes "b") = subst EndsToken same first.longest in (cc)
    by (byte ∷ gap) parts all =
        let same : byte ≡ 97 = cc in
        let blank : is_blank 97 ≡ true = subst (λ b. is_blank b ≡ true) same (All-head (λ b. is_blank b ≡ true) byte gap all) in
        (cc)

-- lines that are given keep their numbers, without comments or with them
abbrev commented : List ℕ
commented = codes "# a\n\nb c\n #d\ne"

without_comments : given_lines Skipped commented ≡ (3, codes "b" ∷ codes "c" ∷ []) ∷ (5, codes "e" ∷ []) ∷ []
without_comments = refl

with_comments : given_lines Kept commented
    ≡ (1, codes "#" ∷ codes "a" ∷ []) ∷ (3, codes "b" ∷ codes "c" ∷ []) ∷ (4, codes "#d" ∷ []) ∷ (5, codes "e" ∷ []) ∷ []
with_comments = refl

-- a line is its number and its tokens, the first one before the others
line_of_three : (line : Line) → line.number ≡ 7 → line.first.now ≡ codes "f"
    → line.others ≡ codes "sub" ∷ codes "x" ∷ []
    → line_seen line ≡ (7, codes "f" ∷ codes "sub" ∷ codes "x" ∷ [])
line_of_three line number first others = rw (number, first, others) refl

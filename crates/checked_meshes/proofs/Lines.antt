-- Lines of tokens, as they are written and as they are read.
use Rattle.std.proofs.Common.{◌≡◌, ℕ, suc, ◌+◌, ◌<◌, true, List, [], ◌∷◌, ◌++◌, length, map, refl, ap, ◌∙◌, arith}
use Rattle.std.specs.Prelude.{All, nat_lt}
use Rattle.std.specs.List.{flat_map}
use Rattle.std.proofs.lemmas.Bool.{lt-ltb}
use Rattle.std.proofs.lemmas.List.Elements.{All-nil, All-cons, All-head, All-tail}
use Rattle.clause_reader.specs.declared.comments.Comments.TheVariants.{Kept}
use Rattle.clause_reader.specs.Lines.{lines_of, tokens_of}
use Rattle.clause_reader.specs.LineLaws.{HasNoFeed}
use Rattle.clause_reader.specs.ModelText.{spaced}
use Rattle.clause_reader.specs.NumberedLines.{given_from, given_lines}
use Rattle.clause_reader.proofs.WrittenTokens.{IsToken, no_feed, tokens_of-spaced}
use Rattle.clause_reader.proofs.LineLemmas.{lines_of-first}

-- the tokens of a line, with a space between them
abbrev pub joined : List (List ℕ) → List ℕ
joined [] = []
joined (token ∷ tokens) = token ++ spaced tokens

-- lines, each of which a line feed ends
abbrev pub written : List (List (List ℕ)) → List ℕ
written lines = flat_map (λ tokens. joined tokens ++ 10 ∷ []) lines

-- the tokens of a line that is given
pub record IsLine (tokens : List (List ℕ)) : Type 0 where
  pub some : 0 < length tokens
  pub tokens_are : All IsToken tokens

-- lines, numbered from a number on
abbrev pub numbered : ℕ → List (List (List ℕ)) → List (ℕ × List (List ℕ))
numbered number [] = []
numbered number (line ∷ lines) = (number, line) ∷ numbered (number + 1) lines

-- ---- the lines of a text are read as they are

-- the tokens of a line are read as they are
joined_read : (tokens : List (List ℕ)) → IsLine tokens → tokens_of (joined tokens) ≡ tokens
joined_read [] line = let some = line.some in absurd (omega (arith, some))
joined_read (token ∷ tokens) line = tokens_of-spaced token tokens (All-head IsToken token tokens line.tokens_are) (All-tail IsToken token tokens line.tokens_are)

-- and no line holds a line feed
joined_no_feed : (tokens : List (List ℕ)) → IsLine tokens → HasNoFeed (joined tokens)
joined_no_feed [] line = let some = line.some in absurd (omega (arith, some))
joined_no_feed (token ∷ tokens) line = no_feed token tokens (All-head IsToken token tokens line.tokens_are) (All-tail IsToken token tokens line.tokens_are)

lines_written : (lines : List (List (List ℕ))) → All IsLine lines → lines_of (written lines) ≡ map joined lines
lines_written [] all = refl
lines_written (tokens ∷ lines) all =
    lines_of-first (joined tokens) (written lines) (joined_no_feed tokens (All-head IsLine tokens lines all))
    ∙ ap (λ ls. joined tokens ∷ ls) (lines_written lines (All-tail IsLine tokens lines all))

given : (number : ℕ) (lines : List (List (List ℕ))) → All IsLine lines → given_from Kept number (map joined lines) ≡ numbered number lines
given number [] all = refl
given number (tokens ∷ lines) all =
    let line = All-head IsLine tokens lines all in
    let here : tokens_of (joined tokens) ≡ tokens = joined_read tokens line in
    let some : nat_lt 0 (length tokens) ≡ true = lt-ltb 0 (length tokens) line.some in
    rw (here, some) (ap (λ ls. (number, tokens) ∷ ls) (given (number + 1) lines (All-tail IsLine tokens lines all)))

pub given_written : (lines : List (List (List ℕ))) → All IsLine lines → given_lines Kept (written lines) ≡ numbered 1 lines
given_written lines all = ap (given_from Kept 1) (lines_written lines all) ∙ given 1 lines all

-- ---- numbers of lines

pub numbered_append : (number : ℕ) (lines more : List (List (List ℕ))) → numbered number (lines ++ more) ≡ numbered number lines ++ numbered (number + length lines) more
numbered_append number [] more = ap (λ n. numbered n more) (let e : number ≡ number + 0 = omega arith in e)
numbered_append number (line ∷ lines) more =
    let next : (number + 1) + length lines ≡ number + suc (length lines) = omega arith in
    ap (λ ls. (number, line) ∷ ls)
    (numbered_append (number + 1) lines more ∙ ap (λ n. numbered (number + 1) lines ++ numbered n more) next)

pub numbered_length : (number : ℕ) (lines : List (List (List ℕ))) → length (numbered number lines) ≡ length lines
numbered_length number [] = refl
numbered_length number (line ∷ lines) = ap suc (numbered_length (number + 1) lines)

pub numbered_map : {A : Type 0} (f : List (List ℕ) → A) (number : ℕ) (lines : List (List (List ℕ))) → map (λ line. f line.1) (numbered number lines) ≡ map f lines
numbered_map f number [] = refl
numbered_map f number (line ∷ lines) = ap (λ xs. f line ∷ xs) (numbered_map f (number + 1) lines)

pub numbered_all : (P : List (List ℕ) → Type 0) (number : ℕ) (lines : List (List (List ℕ))) → All P lines → All (λ line. P line.1) (numbered number lines)
numbered_all P number [] all = All-nil (λ line. P line.1)
numbered_all P number (line ∷ lines) all =
    All-cons (λ line. P line.1) (number, line) (numbered (number + 1) lines) (All-head P line lines all) (numbered_all P (number + 1) lines (All-tail P line lines all))

-- Where the lines that are given stand among all lines.
use Rattle.std.specs.Prelude.{◌≡◌, ℕ, ◌+◌, true, List, [], ◌∷◌, ◌++◌, take, drop, slice_index_or}
use Rattle.clause_reader.specs.declared.comments.Comments.{Comments}
use Rattle.clause_reader.specs.Lines.{tokens_of}
use Rattle.clause_reader.specs.NumberedLines.{given_from, is_given}

-- A line that is given after some and before others, of lines that are numbered from a number on:
-- it is the line of its number, those before it are given of the lines up to it, and the others of
-- the lines after it.
pub record IsGiven (comments : Comments) (from : ℕ) (lines : List (List ℕ))
    (before : List (ℕ × List (List ℕ))) (number : ℕ) (tokens : List (List ℕ))
    (after : List (ℕ × List (List ℕ))) : Type 0 where
  pub place : ℕ
  pub numbered : number ≡ from + place
  pub line : tokens_of (slice_index_or lines place []) ≡ tokens
  pub given : is_given comments tokens ≡ true
  pub up_to : given_from comments from (take (place + 1) lines) ≡ before ++ (number, tokens) ∷ []
  pub later : given_from comments (number + 1) (drop (place + 1) lines) ≡ after

-- each of the lines that are given stands so
abbrev pub GivenLinesStand : Type 0
GivenLinesStand = (comments : Comments) (from : ℕ) (lines : List (List ℕ))
    (before : List (ℕ × List (List ℕ))) (number : ℕ) (tokens : List (List ℕ))
    (after : List (ℕ × List (List ℕ)))
    → given_from comments from lines ≡ before ++ (number, tokens) ∷ after
    → IsGiven comments from lines before number tokens after

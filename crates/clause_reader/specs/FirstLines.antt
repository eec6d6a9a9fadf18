-- How the first line of a text stands in it.
use Rattle.std.specs.Prelude.{◌≡◌, ℕ, ◌<◌, List, ◌∷◌, length}
use Rattle.clause_reader.specs.Lines.{line_of, lines_of}
use Rattle.clause_reader.specs.Scan.{after_line}

-- the lines of a text are the line with which it begins and the lines after that, which are fewer
-- bytes
pub record BeginsWithLine (text : List ℕ) : Type 0 where
  pub lines : lines_of text ≡ line_of text ∷ lines_of (after_line text)
  pub shorter : length (after_line text) < length text

-- so it is of each text that is not empty
abbrev pub TextsBeginWithLines : Type 0
TextsBeginWithLines = (text : List ℕ) → 0 < length text → BeginsWithLine text

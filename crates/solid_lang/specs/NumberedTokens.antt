-- The tokens of a text, each with the number of its line.
use Rattle.std.specs.Prelude.{ℕ, List, map, flat_map}
use Rattle.clause_reader.specs.declared.comments.Comments.TheVariants.{Skipped}
use Rattle.clause_reader.specs.NumberedLines.{given_lines}

-- tokens on the line of this number
abbrev pub on_line : ℕ → List (List ℕ) → List (ℕ × List ℕ)
on_line number tokens = map (λ token. (number, token)) tokens

-- the tokens of numbered lines, one line after the other
abbrev pub on_lines : List (ℕ × List (List ℕ)) → List (ℕ × List ℕ)
on_lines lines = flat_map (λ line. on_line line.0 line.1) lines

-- the tokens of a text in order, without those of comments
abbrev pub numbered_tokens : List ℕ → List (ℕ × List ℕ)
numbered_tokens text = on_lines (given_lines Skipped text)

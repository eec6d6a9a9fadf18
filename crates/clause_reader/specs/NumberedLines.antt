-- The lines of a text by their tokens, each with its number among all lines of the text.
use Rattle.std.specs.Prelude.{ℕ, ◌∷◌, Bool, nat_lt, List, length, map, filter, zip}
use Rattle.std.specs.List.{range_with_len}
use Rattle.clause_reader.specs.declared.comments.Comments.{Comments}
use Rattle.clause_reader.specs.declared.comments.Comments.TheVariants.{Skipped, Kept}
use Rattle.clause_reader.specs.declared.line.Line.{Line}
use Rattle.clause_reader.specs.Lines.{lines_of, tokens_of, is_clause}

-- lines by their tokens, numbered from this number on
abbrev pub numbered_from : ℕ → List (List ℕ) → List (ℕ × List (List ℕ))
numbered_from number lines = zip (range_with_len number (length lines)) (map tokens_of lines)

-- the lines of a text by their tokens, numbered from 1 on
abbrev pub numbered_lines : List ℕ → List (ℕ × List (List ℕ))
numbered_lines text = numbered_from 1 (lines_of text)

-- tokens of a line that is given: there are some, and where comments are skipped the first begins
-- none
abbrev pub is_given : Comments → List (List ℕ) → Bool
is_given Skipped tokens = is_clause tokens
is_given Kept tokens = nat_lt 0 (length tokens)

-- the lines that are given, of lines that are numbered from this number on
abbrev pub given_from : Comments → ℕ → List (List ℕ) → List (ℕ × List (List ℕ))
given_from comments number lines =
    filter (λ line. is_given comments line.1) (numbered_from number lines)

-- the lines of a text that are given
abbrev pub given_lines : Comments → List ℕ → List (ℕ × List (List ℕ))
given_lines comments text = given_from comments 1 (lines_of text)

-- a line as its number and its tokens
abbrev pub line_seen : Line → ℕ × List (List ℕ)
line_seen line = (line.number, line.first.now ∷ line.others)

-- Which words a line has.
use Rattle.std.specs.Prelude.{ℕ, List, [], if◌then◌else◌}
use Rattle.std.specs.List.{list_all}
use Rattle.std.specs.Str.{is_utf8}
use Rattle.clause_reader.specs.Scan.{line_tokens}

-- The words of a line: its tokens, which are separated by blanks, and end where the line does. A line
-- of which a token is no UTF-8 has none.
abbrev pub words_in : List ℕ → List (List ℕ)
words_in line = if list_all is_utf8 (line_tokens line) then line_tokens line else []

-- The lines of a text, and the tokens of a line.
use Rattle.std.specs.Prelude.{ℕ, ◌==◌, Bool, false, not, List, [], ◌∷◌, if◌then◌else◌}
use Rattle.std.specs.List.{before_first}
use Rattle.solid_model.specs.Names.{is_blank}

-- the lists, with a byte at the front of the first of them
abbrev pub onto_first : ℕ → List (List ℕ) → List (List ℕ)
onto_first byte [] = (byte ∷ []) ∷ []
onto_first byte (first ∷ others) = (byte ∷ first) ∷ others

-- what ends a line
abbrev pub is_feed : ℕ → Bool
is_feed byte = byte == 10

-- The lines of a text, which a line feed ends. What stands after the last one is a line too, where
-- it is not empty.
abbrev pub lines_of : List ℕ → List (List ℕ)
lines_of [] = []
lines_of (byte ∷ rest) =
    if is_feed byte then [] ∷ lines_of rest else onto_first byte (lines_of rest)

-- the tokens of a line, the longest runs of bytes that are no blanks
abbrev pub tokens_of : List ℕ → List (List ℕ)
tokens_of [] = []
tokens_of (byte ∷ []) = if is_blank byte then [] else (byte ∷ []) ∷ []
tokens_of (byte ∷ next ∷ rest) =
    if is_blank byte then tokens_of (next ∷ rest)
    else if is_blank next then (byte ∷ []) ∷ tokens_of (next ∷ rest)
    else onto_first byte (tokens_of (next ∷ rest))

-- the line with which bytes begin: all of them up to the first line feed
abbrev pub line_of : List ℕ → List ℕ
line_of bytes = before_first is_feed bytes

-- a token that makes its line a comment, where it is the line's first
abbrev pub begins_comment : List ℕ → Bool
begins_comment [] = false
begins_comment (byte ∷ rest) = byte == 35

-- tokens that say a clause: some, of which the first begins no comment
abbrev pub is_clause : List (List ℕ) → Bool
is_clause [] = false
is_clause (first ∷ others) = not (begins_comment first)

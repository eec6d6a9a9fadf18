-- Where the mark stands between the text of a model and the commands.
use Rattle.std.specs.Prelude.{ℕ, ◌+◌, ◌==◌, ◌&&◌, min, Bool, false, not, List, [], ◌∷◌, length, take, position, Option, codes}
use Rattle.std.specs.Option.{option_map, option_map_or}
use Rattle.std.specs.Str.{bytes_eq}
use Rattle.solid_model.specs.Names.{is_token_byte}
use Rattle.clause_reader.specs.LineLaws.{ended}
use Rattle.clause_reader.specs.Lines.{lines_of, tokens_of}

-- the only token of a mark line
abbrev pub is_sign : List ℕ → Bool
is_sign token = bytes_eq token (codes "%%")

-- the tokens of a mark line
abbrev pub is_mark : List (List ℕ) → Bool
is_mark [] = false
is_mark (token ∷ []) = is_sign token
is_mark (token ∷ next ∷ others) = false

-- a text begins with a byte of a token other than that of a mark line
abbrev pub begins_other : List ℕ → Bool
begins_other [] = false
begins_other (byte ∷ rest) = is_token_byte byte && not (byte == 37)

-- the place of the first mark line among the lines, counted from 0
abbrev pub mark_place : List ℕ → Option ℕ
mark_place input = position (λ line. is_mark (tokens_of line)) (lines_of input)

-- where the line at a place begins: the lines before it with a line feed each are so long; and
-- where the input ends, which the last line feed may lack
abbrev pub line_start : List ℕ → ℕ → ℕ
line_start input place = min (length (ended (take place (lines_of input)))) (length input)

-- where the first mark line begins, and where the line after it does
abbrev pub mark_ends : List ℕ → Option (ℕ × ℕ)
mark_ends input =
    option_map (λ place. (line_start input place, line_start input (place + 1))) (mark_place input)

-- the text of the model in an input: what stands before the first mark line, or all of it where
-- there is none
abbrev pub before_mark : List ℕ → List ℕ
before_mark input = option_map_or (λ ends. take ends.0 input) (mark_ends input) input

-- Which bytes are a name: a token that begins no comment.
use Rattle.std.specs.Prelude.{ℕ, Bool, false, not, ◌&&◌, ◌||◌, ◌==◌, List, [], ◌∷◌, IsTrue}
use Rattle.std.specs.List.{list_all}

-- a space, a tab or a carriage return, which stand between tokens
abbrev pub is_blank : ℕ → Bool
is_blank byte = byte == 32 || byte == 9 || byte == 13

-- a byte that may stand in a token: neither a blank nor a line feed
abbrev pub is_token_byte : ℕ → Bool
is_token_byte byte = not (is_blank byte || byte == 10)

-- bytes of a token that does not begin with `#`
abbrev pub is_name : List ℕ → Bool
is_name [] = false
is_name (first ∷ others) = not (first == 35) && list_all is_token_byte (first ∷ others)

abbrev pub IsName : List ℕ → Type 0
IsName bytes = IsTrue (is_name bytes)

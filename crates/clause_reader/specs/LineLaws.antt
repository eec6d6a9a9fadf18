-- What the lines of a text and the tokens of a line are: how they stand in it, with no reader in
-- these relations.
use Rattle.std.specs.Prelude.{◌≡◌, ◌≢◌, ◌↔◌, ℕ, ◌<◌, List, [], ◌∷◌, ◌++◌, length, slice_index, All, IsTrue, IsFalse, ◌==◌, if◌then◌else◌}
use Rattle.std.specs.List.{flat_map}
use Rattle.solid_model.specs.Names.{is_blank}
use Rattle.clause_reader.specs.Lines.{lines_of, tokens_of}

-- the lines in order, each followed by a line feed
abbrev pub ended : List (List ℕ) → List ℕ
ended lines = flat_map (λ line. line ++ 10 ∷ []) lines

-- the text, with a line feed after it unless it is empty or ends with one
abbrev pub with_feed : List ℕ → List ℕ
with_feed [] = []
with_feed (first ∷ others) =
    if slice_index (first ∷ others) (length others) == 10 then first ∷ others else
    (first ∷ others) ++ 10 ∷ []

-- no byte is a line feed
abbrev pub HasNoFeed : List ℕ → Type 0
HasNoFeed bytes = All (λ byte. byte ≢ 10) bytes

-- the text is these lines: none of them holds a line feed, and a line feed ends each but perhaps
-- the last
pub record AreLines (text : List ℕ) (lines : List (List ℕ)) : Type 0 where
  pub whole : All HasNoFeed lines
  pub joined : ended lines ≡ with_feed text

-- each text is one list of lines, and `lines_of` gives it
abbrev pub LinesAreExact : Type 0
LinesAreExact =
    (text : List ℕ) (lines : List (List ℕ)) → (lines ≡ lines_of text) ↔ AreLines text lines

-- each byte is a blank
abbrev pub AreBlanks : List ℕ → Type 0
AreBlanks bytes = All (λ byte. IsTrue (is_blank byte)) bytes

-- no byte is a blank
abbrev pub HasNoBlank : List ℕ → Type 0
HasNoBlank bytes = All (λ byte. IsFalse (is_blank byte)) bytes

-- what may stand after a token: nothing, or bytes of which the first is a blank
abbrev pub EndsToken : List ℕ → Type 0
EndsToken [] = Unit {0}
EndsToken (byte ∷ others) = IsTrue (is_blank byte)

-- the line is some blanks or none, then the token, a longest run of bytes that are no blanks, and
-- then the rest
pub record HasFirstToken (line token rest : List ℕ) : Type 0 where
  pub gap : List ℕ
  pub parts : line ≡ gap ++ (token ++ rest)
  pub blanks : AreBlanks gap
  pub some : 0 < length token
  pub no_blank : HasNoBlank token
  pub longest : EndsToken rest

-- the line is these tokens in order, with blanks between and around them
abbrev pub Spaced : List ℕ → List (List ℕ) → Type 0
Spaced line [] = AreBlanks line
Spaced line (token ∷ others) = (rest : List ℕ) × HasFirstToken line token rest × Spaced rest others

-- each line is one list of tokens, and `tokens_of` gives it
abbrev pub TokensAreExact : Type 0
TokensAreExact =
    (line : List ℕ) (tokens : List (List ℕ)) → (tokens ≡ tokens_of line) ↔ Spaced line tokens

-- How a token is split off bytes.
use Rattle.std.specs.Prelude.{◌≡◌, ℕ, List, [], ◌∷◌, ◌++◌, IsFalse}
use Rattle.std.specs.List.{after_first}
use Rattle.solid_model.specs.Names.{is_blank}
use Rattle.clause_reader.specs.LineLaws.{AreBlanks}
use Rattle.clause_reader.specs.Lines.{is_feed, line_of, tokens_of}
use Rattle.clause_reader.specs.Tokens.{AreTokenBytes, EndsRun}

-- the tokens of the line with which bytes begin
abbrev pub line_tokens : List ℕ → List (List ℕ)
line_tokens bytes = tokens_of (line_of bytes)

-- the bytes after that line and its line feed
abbrev pub after_line : List ℕ → List ℕ
after_line bytes = after_first is_feed bytes

-- nothing, or bytes of which the first is no blank
abbrev pub BeginsSolid : List ℕ → Type 0
BeginsSolid [] = Unit {0}
BeginsSolid (byte ∷ others) = IsFalse (is_blank byte)

-- bytes without the blanks with which they begin
pub record SkipsBlanks (bytes rest : List ℕ) : Type 0 where
  pub gap : List ℕ
  pub parts : bytes ≡ gap ++ rest
  pub blanks : AreBlanks gap
  pub solid : BeginsSolid rest

-- the longest run of token bytes with which bytes begin, and what stands after it
pub record SplitsRun (bytes run rest : List ℕ) : Type 0 where
  pub parts : bytes ≡ run ++ rest
  pub token : AreTokenBytes run
  pub longest : EndsRun rest

-- Where a token stands in bytes.
use Rattle.std.specs.Prelude.{ℕ, ◌<◌, ◌≤◌, List, [], ◌∷◌, length, drop, slice_range, IsTrue, IsFalse}
use Rattle.std.specs.List.{list_all}
use Rattle.solid_model.specs.Names.{is_token_byte}
use Rattle.clause_reader.specs.LineLaws.{AreBlanks}

-- each byte may stand in a token: none is a blank or a line feed
abbrev pub AreTokenBytes : List ℕ → Type 0
AreTokenBytes bytes = IsTrue (list_all is_token_byte bytes)

-- what may stand after a token: nothing, or bytes of which the first is a blank or a line feed
abbrev pub EndsRun : List ℕ → Type 0
EndsRun [] = Unit {0}
EndsRun (byte ∷ others) = IsFalse (is_token_byte byte)

-- from one place on only blanks stand up to a start, and from there on a token, the longest run of
-- its bytes, up to an end
pub record IsTokenAt (bytes : List ℕ) (from start end : ℕ) : Type 0 where
  pub after : from ≤ start
  pub some : start < end
  pub within : end ≤ length bytes
  pub gap : AreBlanks (slice_range bytes from start)
  pub token : AreTokenBytes (slice_range bytes start end)
  pub longest : EndsRun (drop end bytes)

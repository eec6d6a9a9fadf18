-- What contracts see of the sources in memory.
use Rattle.std.specs.Prelude.{ℕ, List, min, length}

-- of one that never fails: the bytes left, how many were read, and the most bytes that a call gives
pub record SureSourceView : Type 0 where
  pub rest : List ℕ
  pub taken : ℕ
  pub chunk : ℕ

-- of one that fails at chosen calls: also the counts of faults and of calls, and the calls that fail
pub record SourceView : Type 0 where
  pub rest : List ℕ
  pub taken : ℕ
  pub faults : ℕ
  pub calls : ℕ
  pub chunk : ℕ
  pub fails : List ℕ

-- how many bytes a call gives: as many as the buffer, the chunk and what is left allow
abbrev pub given : ℕ → ℕ → List ℕ → ℕ
given room chunk rest = min (min room chunk) (length rest)

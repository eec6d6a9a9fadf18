-- What contracts see of the sinks in memory.
use Rattle.std.specs.Prelude.{ℕ, List, ◌+◌, ◌++◌, length, Option, Some, None, if◌then◌else◌, nat_le}

-- of one that never fails: the bytes held where it tells them, the most that it can hold, and the
-- most bytes that a call takes
pub record SureSinkView : Type 0 where
  pub held : Option (List ℕ)
  pub room : ℕ
  pub chunk : ℕ

-- of one that fails at chosen calls: also the counts of faults and of calls, and the calls that fail
pub record SinkView : Type 0 where
  pub held : Option (List ℕ)
  pub room : ℕ
  pub faults : ℕ
  pub calls : ℕ
  pub chunk : ℕ
  pub fails : List ℕ

-- what a sink with this room tells once it took these bytes too: all of them, where they fit
abbrev pub held_with : ℕ → Option (List ℕ) → List ℕ → Option (List ℕ)
held_with room None bytes = None
held_with room (Some held) bytes =
    if nat_le (length held + length bytes) room then Some (held ++ bytes) else None

-- What contracts see of a sink that gathers what it takes.
use Rattle.std.specs.Prelude.{ℕ, List, []}

-- the bytes taken so far, and how often memory for more of them was refused
pub record Gathering : Type 0 where
  pub held : List ℕ
  pub faults : ℕ

-- one that has taken nothing yet
abbrev pub nothing_yet : Gathering
nothing_yet = record { held = []; faults = 0 }

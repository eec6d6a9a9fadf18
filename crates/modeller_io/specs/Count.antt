-- What a call leaves of an object's members, and by how much it raises an object's counts.
use Rattle.std.specs.Prelude.{◌≡◌, ℕ, ◌+◌, ◌-◌, ◌^◌, ◌≤◌, min, max}

-- the last value of a count
abbrev pub last_count : ℕ
last_count = 2 ^ 64 - 1

-- the count and n more, but no more than the last value that a count has: there it stands still
abbrev pub raised : ℕ → ℕ → ℕ
raised count n = max count (min (count + n) last_count)

-- a member of the object is after the call what it was before
abbrev pub Stands : {S V : Type 0} → (S → V) → S → S → Type 0
Stands member before after = member after ≡ member before

-- a count of the object rose by exactly n, or to its last value where that is nearer
abbrev pub RoseBy : {S : Type 0} → (S → ℕ) → S → S → ℕ → Type 0
RoseBy count before after n = count after ≡ raised (count before) n

-- a count of the object rose by at most so much
pub record RoseAtMost {S : Type 0} (count : S → ℕ) (before after : S) (most : ℕ) : Type 0 where
  pub by : ℕ
  pub within : by ≤ most
  pub rose : RoseBy count before after by

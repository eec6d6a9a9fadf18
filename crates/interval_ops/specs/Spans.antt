-- Spans: ranges of raw numbers, both ends included.
use Rattle.std.specs.Prelude.{ℤ, ◌≤ℤ◌}
use Rattle.fixed_ops.specs.Raw.{IsRaw, greatest, least}

-- the ends of a span, as raw numbers
pub record Interval : Type 0 where
  pub lo : ℤ
  pub hi : ℤ

-- the ends are raw numbers in order
pub record IsSpan (s : Interval) : Type 0 where
  pub lo : IsRaw s.lo
  pub hi : IsRaw s.hi
  pub order : s.lo ≤ℤ s.hi

-- a number lies in a span
abbrev pub Holds : Interval → ℤ → Type 0
Holds s v = (s.lo ≤ℤ v) × (v ≤ℤ s.hi)

-- each number of the first span lies in the second
abbrev pub IsWithin : Interval → Interval → Type 0
IsWithin part whole = (whole.lo ≤ℤ part.lo) × (part.hi ≤ℤ whole.hi)

-- all raw numbers
abbrev pub all_numbers : Interval
all_numbers = record { lo = least; hi = greatest }

-- Raw numbers. A value is a whole number v of at most 2^62 - 1 on either side of 0,
-- and means v / 2^32.
use Rattle.std.specs.Prelude.{ℕ, ◌-◌, ◌/◌, ◌^◌, ℤ, pos, negsuc, ◌≤ℤ◌, Bool, IsTrue, int_lt}
use Rattle.std.specs.Int.{int_max, int_min}
use lib.IntN.{neg_ℤ}

-- the greatest raw number
abbrev pub greatest : ℤ
greatest = pos (2 ^ 62 - 1)

-- the least raw number
abbrev pub least : ℤ
least = neg_ℤ greatest

-- a whole number that is a raw number
abbrev pub IsRaw : ℤ → Type 0
IsRaw v = (least ≤ℤ v) × (v ≤ℤ greatest)

-- the raw number nearest to a whole number
abbrev pub clamp : ℤ → ℤ
clamp t = int_max least (int_min t greatest)

-- the greatest whole number that is at most t / d, for d > 0
abbrev pub floor_div : ℤ → ℕ → ℤ
floor_div (pos n) d = pos (n / d)
floor_div (negsuc n) d = negsuc (n / d)

-- a value below 0 is inside the solid, and 0 is outside
abbrev pub is_inside : ℤ → Bool
is_inside v = int_lt v (pos 0)

abbrev pub IsInside : ℤ → Type 0
IsInside v = IsTrue (is_inside v)

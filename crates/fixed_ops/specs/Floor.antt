-- Quotients rounded down.
use Rattle.std.specs.Prelude.{ℕ, ℤ, pos, ◌+ℤ◌, ◌*ℤ◌, ◌≤ℤ◌, ◌<ℤ◌}

-- q is the greatest whole number that is at most t / d
abbrev pub IsFloor : ℤ → ℕ → ℤ → Type 0
IsFloor t d q = ((q *ℤ pos d) ≤ℤ t) × (t <ℤ ((q +ℤ pos 1) *ℤ pos d))

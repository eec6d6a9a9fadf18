-- What a tally counts, and what it rises by. Each count stands still at 2^64 - 1.
use Rattle.std.specs.Prelude.{◌≡◌, ℕ, ◌+◌, ◌-◌, ◌*◌, ◌^◌, ◌≤◌, min, max}

-- the counts of evaluations at points, of hulls over boxes, and of corners of hulls
pub record Counts : Type 0 where
  pub points : ℕ
  pub spans : ℕ
  pub corners : ℕ

-- the count, risen by n, but no further than the last value that a count has
abbrev pub risen : ℕ → ℕ → ℕ
risen count n = max count (min (count + n) (2 ^ 64 - 1))

-- no work
abbrev pub no_counts : Counts
no_counts = record { points = 0; spans = 0; corners = 0 }

-- so many evaluations at points, and nothing else
abbrev pub points_of : ℕ → Counts
points_of n = record { points = n; spans = 0; corners = 0 }

-- so many hulls, and nothing else
abbrev pub spans_of : ℕ → Counts
spans_of n = record { points = 0; spans = n; corners = 0 }

-- so many corners, and nothing else
abbrev pub corners_of : ℕ → Counts
corners_of n = record { points = 0; spans = 0; corners = n }

-- the counts of two pieces of work
abbrev pub plus : Counts → Counts → Counts
plus a b = record {
  points = a.points + b.points;
  spans = a.spans + b.spans;
  corners = a.corners + b.corners;
}

-- the counts of a piece of work that is done n times
abbrev pub times : ℕ → Counts → Counts
times n a = record { points = n * a.points; spans = n * a.spans; corners = n * a.corners }

-- each count risen by the other's
abbrev pub joined : Counts → Counts → Counts
joined a b = record {
  points = risen a.points b.points;
  spans = risen a.spans b.spans;
  corners = risen a.corners b.corners;
}

-- a tally rises by exactly these counts
abbrev pub RisesBy : Counts → Counts → Counts → Type 0
RisesBy before after by = after ≡ joined before by

-- each count is at most the other's
pub record IsAtMost (counts most : Counts) : Type 0 where
  pub points : counts.points ≤ most.points
  pub spans : counts.spans ≤ most.spans
  pub corners : counts.corners ≤ most.corners

-- a tally rises by counts that are at most these
pub record RisesAtMost (before after most : Counts) : Type 0 where
  pub by : Counts
  pub within : IsAtMost by most
  pub rises : RisesBy before after by

-- a tally rises by counts each of which is at least the first and at most the second of these
pub record RisesWithin (before after least most : Counts) : Type 0 where
  pub by : Counts
  pub enough : IsAtMost least by
  pub within : IsAtMost by most
  pub rises : RisesBy before after by

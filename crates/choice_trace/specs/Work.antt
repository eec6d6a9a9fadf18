-- What a domain counts: no less than some work for each step, and no more than other work.
use Rattle.std.specs.Prelude.{ℕ}
use Rattle.fixed_ops.specs.Counts.{Counts, RisesBy, RisesWithin, points_of, spans_of, times}
use Rattle.interval_ops.specs.HullCounts.{CountsHulls, hulls_of}

-- a tally that rises by at least and at most so many evaluations at points rises by exactly as many
abbrev pub PointsAreExact : Type 0
PointsAreExact = (before after : Counts) (n : ℕ)
    → RisesWithin before after (times n (points_of 1)) (times n (points_of 1))
    → RisesBy before after (points_of n)

-- a tally that rises by so many hulls, of at most four corners each, counts as many hulls
abbrev pub HullsAreExact : Type 0
HullsAreExact = (before after : Counts) (n : ℕ)
    → RisesWithin before after (times n (spans_of 1)) (times n (hulls_of 1 4))
    → CountsHulls n before after

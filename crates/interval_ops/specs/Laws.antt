-- What always holds of hulls, and of how many are counted.
use Rattle.std.specs.Prelude.{◌≡◌, ℕ, ◌+◌}
use Rattle.fixed_ops.specs.Counts.{Counts, RisesBy, no_counts}
use Rattle.fixed_ops.specs.declared.operation.Op.{Op}
use Rattle.interval_ops.specs.HullCounts.{CountsHulls}
use Rattle.interval_ops.specs.Hulls.{IsHull, hull_of}
use Rattle.interval_ops.specs.Spans.{Interval, IsSpan}

-- the hull by its ends is the hull of the results on all values
abbrev pub HullHolds : Type 0
HullHolds = (op : Op) (a b : Interval) → IsSpan a → IsSpan b → IsHull op a b (hull_of op a b)

-- and no other span is
abbrev pub OnlyHullHolds : Type 0
OnlyHullHolds = (op : Op) (a b h k : Interval) → IsHull op a b h → IsHull op a b k → h ≡ k

-- hulls of spans are spans
abbrev pub HullsAreSpans : Type 0
HullsAreSpans =
    (op : Op) (a b h : Interval) → IsSpan a → IsSpan b → IsHull op a b h → IsSpan h

-- a tally that stands counts no hull
abbrev pub StandingCountsNoHull : Type 0
StandingCountsNoHull = (counts : Counts) → CountsHulls 0 counts counts

-- hulls that are counted after others are counted with them
abbrev pub HullCountsAdd : Type 0
HullCountsAdd = (before mid after : Counts) (m n : ℕ) → CountsHulls m before mid
    → CountsHulls n mid after → CountsHulls (m + n) before after

-- hulls that are counted apart, from nothing, are counted by the tally that they then join
abbrev pub HullCountsJoin : Type 0
HullCountsJoin = (before after work : Counts) (n : ℕ) → CountsHulls n no_counts work
    → RisesBy before after work → CountsHulls n before after

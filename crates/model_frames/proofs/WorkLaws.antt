-- How work that is done, work that may have stopped and no work go together.
use Rattle.std.proofs.Common.{◌≡◌, ℕ, ◌+◌, ◌^◌, ◌<◌, ◌≤◌, ap, ◌∙◌, arith}
use Rattle.fixed_ops.specs.Counts.{Counts, IsAtMost, RisesBy, no_counts, plus, risen}
use Rattle.model_frames.specs.Laws.{FramesAddUp}
use Rattle.model_frames.specs.Work.{CountsWithin, CountsWork, FitsCounts, PointsRiseAtMost, Work, both, exactly, no_work}
use Rattle.fixed_ops.proofs.CountLaws.{IsAtMost-plus, IsAtMost-trans, tallies_add_up_is}

-- no work is exactly none, and within any
work-none : (counts : Counts) → CountsWork counts counts no_work
unfolding CountsWork
work-none counts = record {
  by = no_counts;
  enough = record { points = omega arith; spans = omega arith; corners = omega arith };
  within = record { points = omega arith; spans = omega arith; corners = omega arith };
  rises = tallies_add_up_is.none counts;
}

pub within-none : (counts : Counts) (work : Work) → CountsWithin counts counts work
unfolding CountsWithin
within-none counts work = tallies_add_up_is.most_none counts work.bound

plain-none : (counts : Counts) (most : ℕ) → PointsRiseAtMost counts counts most
plain-none counts most = record {
  by = 0;
  few = omega arith;
  rises = omega arith;
}

-- work that is done is within its bound
within-done : (before after : Counts) (work : Work) → IsAtMost work.most work.bound → CountsWork before after work
    → CountsWithin before after work
unfolding CountsWork CountsWithin
within-done before after work less h = record {
  by = h.by;
  within = IsAtMost-trans h.by work.most work.bound h.within less;
  rises = h.rises;
}

-- work after work
done-then : (before mid after : Counts) (a b : Work) → CountsWork before mid a → CountsWork mid after b → CountsWork before after (both a b)
unfolding CountsWork
done-then before mid after a b first next = record {
  by = plus first.by next.by;
  enough = IsAtMost-plus a.least b.least first.by next.by first.enough next.enough;
  within = IsAtMost-plus first.by next.by a.most b.most first.within next.within;
  rises = tallies_add_up_is.sum before mid after first.by next.by first.rises next.rises;
}

within-then : (before mid after : Counts) (a b : Work) → CountsWithin before mid a → CountsWithin mid after b → CountsWithin before after (both a b)
unfolding CountsWithin
within-then before mid after a b first next =
    tallies_add_up_is.most_sum before mid after a.bound b.bound first next

-- what is within a bound is within more
within-more : (before after : Counts) (a b : Work) → CountsWithin before after a → CountsWithin before after (both a b)
unfolding CountsWithin
within-more before after a b few =
    tallies_add_up_is.most_more before after a.bound (plus a.bound b.bound) few
    (record { points = omega arith; spans = omega arith; corners = omega arith })

-- evaluations after evaluations
plain-then : (before mid after : Counts) (m n : ℕ) → PointsRiseAtMost before mid m → PointsRiseAtMost mid after n → PointsRiseAtMost before after (m + n)
plain-then before mid after m n first next = record {
  by = first.by + next.by;
  few = omega (arith, first.few, next.few);
  rises = omega (arith, first.rises, next.rises);
}

plain-more : (before after : Counts) (m n : ℕ) → PointsRiseAtMost before after m → PointsRiseAtMost before after (m + n)
plain-more before after m n rise =
    record { by = rise.by; few = omega (arith, rise.few); rises = rise.rises }

-- what another tally has counted from nothing
pub done-joined : (before after counts : Counts) (work : Work) → CountsWork no_counts counts work → RisesBy before after counts → CountsWork before after work
unfolding CountsWork
done-joined before after counts work h joined = record {
  by = h.by;
  enough = h.enough;
  within = h.within;
  rises = tallies_add_up_is.joined before after counts h.by h.rises joined;
}

-- the same of what is within some work
pub within-joined : (before after counts : Counts) (work : Work) → CountsWithin no_counts counts work → RisesBy before after counts → CountsWithin before after work
unfolding CountsWithin
within-joined before after counts work h joined = record {
  by = h.by;
  within = h.within;
  rises = tallies_add_up_is.joined before after counts h.by h.rises joined;
}

-- a count that takes in one that rose from nothing
risen-joined : (before count by : ℕ) → count ≡ risen 0 by → risen before count ≡ risen before by
risen-joined before count by rises = omega (arith, rises)

-- and of plain evaluations
pub plain-joined : (before after counts : Counts) (most : ℕ) → PointsRiseAtMost no_counts counts most → RisesBy before after counts → PointsRiseAtMost before after most
plain-joined before after counts most h joined = record {
  by = h.by;
  few = h.few;
  rises = ap (λ c. c.points) joined ∙ risen-joined before.points counts.points h.by h.rises;
}

-- a count that rose from nothing by a number that fits a count is that number
risen-alone : (count by n : ℕ) → count ≡ risen 0 by → n ≤ by → by ≤ n → n < 2 ^ 64 → count ≡ n
risen-alone count by n rises enough within fits = omega (arith, rises, enough, within, fits)

-- so a tally that began with nothing tells the numbers of exact work
pub told-exactly : (counts : Counts) (points spans plain : ℕ) → FitsCounts (exactly points spans plain) → CountsWork no_counts counts (exactly points spans plain)
    → (counts.points ≡ points) × (counts.spans ≡ spans)
unfolding CountsWork
told-exactly counts points spans plain fits h = (
  risen-alone counts.points h.by.points points (ap (λ c. c.points) h.rises) h.enough.points h.within.points fits.points,
  risen-alone counts.spans h.by.spans spans (ap (λ c. c.spans) h.rises) h.enough.spans h.within.spans fits.spans,
)

-- so the work of frames adds up
pub frames_add_up_is : FramesAddUp
frames_add_up_is = record {
  none = work-none;
  within_none = within-none;
  plain_none = plain-none;
  within = within-done;
  within_more = within-more;
  plain_more = plain-more;
  sum = done-then;
  within_sum = within-then;
  plain_sum = plain-then;
  joined = done-joined;
  within_joined = within-joined;
  plain_joined = plain-joined;
  told = told-exactly;
}

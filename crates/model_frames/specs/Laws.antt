-- How the work of frames adds up.
use Rattle.std.specs.Prelude.{◌≡◌, ℕ, ◌+◌}
use Rattle.fixed_ops.specs.Counts.{Counts, IsAtMost, RisesBy, no_counts}
use Rattle.model_frames.specs.Work.{CountsWithin, CountsWork, FitsCounts, PointsRiseAtMost, Work, both, exactly, no_work}

-- No work is exactly none, and within any. Work that is done is within its bound, where that is no
-- less than its most, and what is within a bound is within more. The work of two frames is that of
-- one after the other: where it is done, at most, and in plain evaluations. A tally that takes in
-- what another has counted from nothing counts the same; and that other one tells the numbers of exact
-- work, where they fit a count.
pub record FramesAddUp : Type 0 where
  pub none : (counts : Counts) → CountsWork counts counts no_work
  pub within_none : (counts : Counts) (work : Work) → CountsWithin counts counts work
  pub plain_none : (counts : Counts) (most : ℕ) → PointsRiseAtMost counts counts most
  pub within : (before after : Counts) (work : Work) → IsAtMost work.most work.bound
      → CountsWork before after work → CountsWithin before after work
  pub within_more : (before after : Counts) (a b : Work) → CountsWithin before after a
      → CountsWithin before after (both a b)
  pub plain_more : (before after : Counts) (m n : ℕ) → PointsRiseAtMost before after m
      → PointsRiseAtMost before after (m + n)
  pub sum : (before mid after : Counts) (a b : Work) → CountsWork before mid a
      → CountsWork mid after b → CountsWork before after (both a b)
  pub within_sum : (before mid after : Counts) (a b : Work) → CountsWithin before mid a
      → CountsWithin mid after b → CountsWithin before after (both a b)
  pub plain_sum : (before mid after : Counts) (m n : ℕ) → PointsRiseAtMost before mid m
      → PointsRiseAtMost mid after n → PointsRiseAtMost before after (m + n)
  pub joined : (before after counts : Counts) (work : Work) → CountsWork no_counts counts work
      → RisesBy before after counts → CountsWork before after work
  pub within_joined : (before after counts : Counts) (work : Work)
      → CountsWithin no_counts counts work → RisesBy before after counts
      → CountsWithin before after work
  pub plain_joined : (before after counts : Counts) (most : ℕ)
      → PointsRiseAtMost no_counts counts most → RisesBy before after counts
      → PointsRiseAtMost before after most
  pub told : (counts : Counts) (points spans plain : ℕ) → FitsCounts (exactly points spans plain)
      → CountsWork no_counts counts (exactly points spans plain)
      → (counts.points ≡ points) × (counts.spans ≡ spans)

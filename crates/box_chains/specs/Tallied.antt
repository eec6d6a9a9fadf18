-- What a tally rises by for the work that boxes take.
use Rattle.std.specs.Prelude.{ℕ, ◌*◌, ◌≤◌}
use Rattle.fixed_ops.specs.Counts.{Counts, IsAtMost, RisesBy}

-- so many evaluations and hulls, and so many corners
abbrev pub work_of : ℕ → ℕ → ℕ → Counts
work_of points spans corners = record { points = points; spans = spans; corners = corners }

-- a tally rises by exactly so many evaluations and hulls, with at most four corners for each hull
pub record CountsExactly (points spans : ℕ) (before after : Counts) : Type 0 where
  pub corners : ℕ
  pub few : corners ≤ 4 * spans
  pub rises : RisesBy before after (work_of points spans corners)

-- a tally rises by at most so many evaluations and hulls, with at most four corners for each hull
pub record CountsAtMost (points spans : ℕ) (before after : Counts) : Type 0 where
  pub by : Counts
  pub few : IsAtMost by (work_of points spans (4 * spans))
  pub rises : RisesBy before after by

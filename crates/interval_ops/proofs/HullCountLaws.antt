-- How counts of hulls add up.
use Rattle.std.specs.Prelude.{◌+◌}
use Rattle.std.proofs.Common.{arith}
use Rattle.interval_ops.specs.HullCounts.{hulls_of}
use Rattle.interval_ops.specs.Laws.{HullCountsAdd, HullCountsJoin, StandingCountsNoHull}
use Rattle.fixed_ops.proofs.CountLaws.{tallies_add_up_is}

-- a tally that stands counts no hull
pub CountsHulls-none : StandingCountsNoHull
CountsHulls-none counts =
    record { corners = 0; few = omega arith; rises = tallies_add_up_is.none counts }

-- hulls after others
pub CountsHulls-then : HullCountsAdd
CountsHulls-then before mid after m n first second = record {
  corners = first.corners + second.corners;
  few = omega arith;
  rises = tallies_add_up_is.sum before mid after (hulls_of m first.corners)
      (hulls_of n second.corners) first.rises second.rises;
}

-- hulls that were counted from nothing, and then joined
pub CountsHulls-apart : HullCountsJoin
CountsHulls-apart before after work n apart whole = record {
  corners = apart.corners;
  few = apart.few;
  rises = tallies_add_up_is.joined before after work (hulls_of n apart.corners) apart.rises whole;
}

-- How exact work and bounds of work add up.
use Rattle.std.proofs.Common.{◌≡◌, ℕ, ◌+◌, ◌≤◌, subst, arith}
use Rattle.fixed_ops.specs.Counts.{Counts, RisesBy, plus, points_of}
use Rattle.fixed_ops.specs.Laws.{TalliesAddUp}
use Rattle.interval_ops.specs.HullCounts.{CountsHulls}
use Rattle.box_chains.specs.Tallied.{CountsAtMost, CountsExactly, work_of}

pub exactly-none : TalliesAddUp → (counts : Counts) → CountsExactly 0 0 counts counts
exactly-none tallies counts =
    record { corners = 0; few = omega arith; rises = tallies.none counts }

-- work after other work
pub exactly-then : TalliesAddUp → (before mid after : Counts) (p s q t : ℕ)
    → CountsExactly p s before mid → CountsExactly q t mid after
    → CountsExactly (p + q) (s + t) before after
exactly-then tallies before mid after p s q t first second = record {
  corners = first.corners + second.corners;
  few = omega (arith, first.few, second.few);
  rises = tallies.sum before mid after (work_of p s first.corners)
      (work_of q t second.corners) first.rises second.rises;
}

-- hulls are counted without evaluations, and evaluations without hulls
pub exactly-hulls : (before after : Counts) (n : ℕ) → CountsHulls n before after
    → CountsExactly 0 n before after
exactly-hulls before after n h = record { corners = h.corners; few = h.few; rises = h.rises }

pub exactly-points : (before after : Counts) (n : ℕ) → RisesBy before after (points_of n)
    → CountsExactly n 0 before after
exactly-points before after n h = record { corners = 0; few = omega arith; rises = h }

pub exactly-same : (before after : Counts) (p s q t : ℕ) → p ≡ q → s ≡ t
    → CountsExactly p s before after → CountsExactly q t before after
exactly-same before after p s q t same_p same_s h =
    subst (λ n. CountsExactly n t before after) same_p (subst
    (λ n. CountsExactly p n before after) same_s h)

-- exact work is at most any greater one
pub most-exactly : (before after : Counts) (p s q t : ℕ) → p ≤ q → s ≤ t
    → CountsExactly p s before after → CountsAtMost q t before after
most-exactly before after p s q t few less h = record {
  by = work_of p s h.corners;
  few = record { points = few; spans = less; corners = omega (arith, h.few, less) };
  rises = h.rises;
}

-- what is bounded is bounded by more
pub most-more : (before after : Counts) (p s q t : ℕ) → p ≤ q → s ≤ t
    → CountsAtMost p s before after → CountsAtMost q t before after
most-more before after p s q t few less h = record {
  by = h.by;
  few = record {
    points = omega (arith, few, h.few.points);
    spans = omega (arith, less, h.few.spans);
    corners = omega (arith, less, h.few.corners);
  };
  rises = h.rises;
}

pub most-none : TalliesAddUp → (counts : Counts) (p s : ℕ) → CountsAtMost p s counts counts
most-none tallies counts p s =
    most-exactly counts counts 0 0 p s (omega arith) (omega arith) (exactly-none tallies counts)

-- bounded work after bounded work
pub most-then : TalliesAddUp → (before mid after : Counts) (p s q t r u : ℕ) → p + q ≤ r
    → s + t ≤ u → CountsAtMost p s before mid
    → CountsAtMost q t mid after → CountsAtMost r u before after
most-then tallies before mid after p s q t r u few less first second = record {
  by = plus first.by second.by;
  few = record {
    points = omega (arith, few, first.few.points, second.few.points);
    spans = omega (arith, less, first.few.spans, second.few.spans);
    corners = omega (arith, less, first.few.corners, second.few.corners);
  };
  rises = tallies.sum before mid after first.by second.by first.rises second.rises;
}

-- bounded work after exact work
pub most-after : TalliesAddUp → (before mid after : Counts) (p s q t r u : ℕ) → p + q ≤ r
    → s + t ≤ u → CountsExactly p s before mid
    → CountsAtMost q t mid after → CountsAtMost r u before after
most-after tallies before mid after p s q t r u few less first second =
    most-then tallies before mid after p s q t r u few less (most-exactly before mid p s p s (omega arith)
    (omega arith) first) second

pub most-hulls : (before after : Counts) (n : ℕ) → CountsHulls n before after
    → CountsAtMost 0 n before after
most-hulls before after n h =
    most-exactly before after 0 n 0 n (omega arith) (omega arith) (exactly-hulls before after n h)

pub most-points : (before after : Counts) (n : ℕ) → RisesBy before after (points_of n)
    → CountsAtMost n 0 before after
most-points before after n h =
    most-exactly before after n 0 n 0 (omega arith) (omega arith) (exactly-points before after n h)

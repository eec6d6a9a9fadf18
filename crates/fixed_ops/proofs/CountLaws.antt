-- How rises of a tally add up.
use Rattle.std.specs.Prelude.{◌≡◌, ℕ}
use Rattle.std.proofs.Common.{sym, ap, ◌∙◌, arith}
use Rattle.fixed_ops.specs.Counts.{Counts, no_counts, plus, joined, RisesBy, IsAtMost, RisesAtMost}
use Rattle.fixed_ops.specs.Laws.{TalliesAddUp}

-- counts are equal where each of them is
pub same_counts : (a b : Counts) → a.points ≡ b.points → a.spans ≡ b.spans → a.corners ≡ b.corners
    → a ≡ b
same_counts a b p s c =
    ap (λ (n : ℕ). record { points = n; spans = a.spans; corners = a.corners }) p
    ∙ ap (λ (n : ℕ). record { points = b.points; spans = n; corners = a.corners }) s
    ∙ ap (λ (n : ℕ). record { points = b.points; spans = b.spans; corners = n }) c

-- to rise by no counts is to stand still
joined-none : (counts : Counts) → joined counts no_counts ≡ counts
joined-none counts =
    same_counts (joined counts no_counts) counts (omega arith) (omega arith) (omega arith)

-- to rise twice is to rise by the sum
joined-joined : (counts a b : Counts) → joined (joined counts a) b ≡ joined counts (plus a b)
joined-joined counts a b =
    same_counts (joined (joined counts a) b) (joined counts (plus a b)) (omega arith) (omega arith)
    (omega arith)

-- a tally that takes in what another has counted from nothing rises by that
RisesBy-apart : (before after work by : Counts) → RisesBy no_counts work by
    → RisesBy before after work → RisesBy before after by
RisesBy-apart before after work by apart whole =
    whole ∙ ap (joined before) apart
    ∙ same_counts (joined before (joined no_counts by)) (joined before by) (omega arith) (omega arith)
    (omega arith)

-- a tally that stands rises by no counts
RisesBy-none : (counts : Counts) → RisesBy counts counts no_counts
RisesBy-none counts = sym (joined-none counts)

-- a rise after a rise is a rise by the sum
RisesBy-then : (before mid after a b : Counts) → RisesBy before mid a → RisesBy mid after b
    → RisesBy before after (plus a b)
RisesBy-then before mid after a b first second =
    second ∙ ap (λ (counts : Counts). joined counts b) first ∙ joined-joined before a b

-- each count is at most itself
pub IsAtMost-refl : (counts : Counts) → IsAtMost counts counts
IsAtMost-refl counts = record { points = omega arith; spans = omega arith; corners = omega arith }

-- what is at most some counts is at most greater ones
pub IsAtMost-trans : (a b c : Counts) → IsAtMost a b → IsAtMost b c → IsAtMost a c
IsAtMost-trans a b c p q =
    record { points = omega arith; spans = omega arith; corners = omega arith }

-- sums of counts are at most the sums of greater ones
pub IsAtMost-plus : (a b c d : Counts) → IsAtMost a c → IsAtMost b d
    → IsAtMost (plus a b) (plus c d)
IsAtMost-plus a b c d p q =
    record { points = omega arith; spans = omega arith; corners = omega arith }

-- an exact rise is a rise by at most as much
RisesAtMost-exactly : (before after by : Counts) → RisesBy before after by
    → RisesAtMost before after by
RisesAtMost-exactly before after by rises =
    record { by = by; within = IsAtMost-refl by; rises = rises }

-- a tally that stands rises by at most any counts
RisesAtMost-none : (counts most : Counts) → RisesAtMost counts counts most
RisesAtMost-none counts most = record {
  by = no_counts;
  within = record { points = omega arith; spans = omega arith; corners = omega arith };
  rises = RisesBy-none counts;
}

-- a rise by at most some counts is one by at most greater ones
RisesAtMost-more : (before after most more : Counts) → RisesAtMost before after most
    → IsAtMost most more → RisesAtMost before after more
RisesAtMost-more before after most more rise le = record {
  by = rise.by;
  within = IsAtMost-trans rise.by most more rise.within le;
  rises = rise.rises;
}

-- a rise after a rise is one by at most the sum
RisesAtMost-then : (before mid after a b : Counts) → RisesAtMost before mid a
    → RisesAtMost mid after b → RisesAtMost before after (plus a b)
RisesAtMost-then before mid after a b first second = record {
  by = plus first.by second.by;
  within = IsAtMost-plus first.by second.by a b first.within second.within;
  rises = RisesBy-then before mid after first.by second.by first.rises second.rises;
}

-- so rises of tallies add up
pub tallies_add_up_is : TalliesAddUp
tallies_add_up_is = record {
  none = RisesBy-none;
  sum = RisesBy-then;
  joined = RisesBy-apart;
  exact = RisesAtMost-exactly;
  most_none = RisesAtMost-none;
  most_more = RisesAtMost-more;
  most_sum = RisesAtMost-then;
}

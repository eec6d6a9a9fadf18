-- Corners that are counted one after another.
use Rattle.std.specs.Prelude.{◌≡◌, ℕ, ◌+◌, ◌<ℤ◌, int_le, ◌&&◌}
use Rattle.std.proofs.Common.{Bool, true, false, cond, pos, refl, ap, ◌∙◌, subst, zero-add, arith}
use Rattle.std.proofs.lemmas.Int.{ints}
use Rattle.fixed_ops.specs.Counts.{Counts, joined, corners_of, spans_of, plus, RisesBy, IsAtMost, RisesAtMost}
use Rattle.interval_ops.specs.HullCounts.{CountsHulls, hulls_of}
use Rattle.interval_ops.specs.Spans.{Interval}
use Rattle.fixed_ops.proofs.CountLaws.{tallies_add_up_is}

-- a corner after another
pub rise_by_two_corners : (before mid after : Counts) → mid ≡ joined before (corners_of 1) → after ≡ joined mid (corners_of 1) → after ≡ joined before (corners_of 2)
rise_by_two_corners before mid after p q = tallies_add_up_is.sum before mid after (corners_of 1) (corners_of 1) p q

-- four corners, one after another
pub rise_by_four_corners : (t u v w x : Counts) → u ≡ joined t (corners_of 1) → v ≡ joined u (corners_of 1) → w ≡ joined v (corners_of 1) → x ≡ joined w (corners_of 1) → x ≡ joined t (corners_of 4)
rise_by_four_corners t u v w x p q r s =
    tallies_add_up_is.sum t v x (corners_of 2) (corners_of 2) (rise_by_two_corners t u v p q) (rise_by_two_corners v w x r s)

-- where nothing is counted, no corner is
pub rise_by_no_corner : (counts : Counts) → counts ≡ joined counts (corners_of 0)
rise_by_no_corner counts = tallies_add_up_is.none counts

-- none, two or four corners are at most four
pub no_corner_is_at_most_four : (counts : Counts) → RisesAtMost counts counts (corners_of 4)
no_corner_is_at_most_four counts = tallies_add_up_is.most_none counts (corners_of 4)

pub two_corners_are_at_most_four : (before after : Counts) → after ≡ joined before (corners_of 2) → RisesAtMost before after (corners_of 4)
two_corners_are_at_most_four before after p =
    record { by = corners_of 2; within = record { points = omega arith; spans = omega arith; corners = omega arith }; rises = p }

pub four_corners_are_at_most_four : (before after : Counts) → after ≡ joined before (corners_of 4) → RisesAtMost before after (corners_of 4)
four_corners_are_at_most_four before after p = tallies_add_up_is.exact before after (corners_of 4) p

-- a hull and its corners
pub rise_by_hull_and_corners : (before mid after : Counts) (corners : ℕ) → mid ≡ joined before (spans_of 1) → after ≡ joined mid (corners_of corners) → after ≡ joined before (hulls_of 1 corners)
rise_by_hull_and_corners before mid after corners p q =
    subst (λ n. after ≡ joined before (hulls_of 1 n)) (zero-add corners) (tallies_add_up_is.sum before mid after (spans_of 1) (corners_of corners) p q)

-- a hull and four corners at most
hull_and_its_corners : (by : Counts) → IsAtMost by (corners_of 4) → plus (spans_of 1) by ≡ hulls_of 1 by.corners
hull_and_its_corners by le =
    let p : 0 + by.points ≡ 0 = omega arith in
    let s : 1 + by.spans ≡ 1 = omega arith in
    ap (λ (n : ℕ). record { points = n; spans = 1 + by.spans; corners = 0 + by.corners }) p
    ∙ ap (λ (n : ℕ). record { points = 0; spans = n; corners = 0 + by.corners }) s
    ∙ ap (λ (n : ℕ). record { points = 0; spans = 1; corners = n }) (omega arith)

pub one_hull_is_counted : (before mid after : Counts) → mid ≡ joined before (spans_of 1) → RisesAtMost mid after (corners_of 4) → CountsHulls 1 before after
one_hull_is_counted before mid after p rise = record {
  corners = rise.by.corners;
  few = omega arith;
  rises = subst (λ (by : Counts). RisesBy before after by) (hull_and_its_corners rise.by rise.within) (tallies_add_up_is.sum before mid after (spans_of 1) rise.by p rise.rises);
}

-- a divisor below 0 is not 0
pub negative_divisor_takes_two_corners : (b : Interval) → b.hi <ℤ pos 0 → ◌≡◌ {A = ℕ} (cond (int_le (pos 0) b.hi && int_le b.lo (pos 0)) 0 2) 2
negative_divisor_takes_two_corners b below = ap (λ (t : Bool). cond (t && int_le b.lo (pos 0)) 0 2) (not_above (int_le (pos 0) b.hi) refl)
  where
    not_above : (t : Bool) → t ≡ int_le (pos 0) b.hi → t ≡ false
    not_above true is = absurd (grind (arith, ints))
    not_above false is = refl

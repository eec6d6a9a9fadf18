-- What a domain counts where it counts one evaluation at a point, or one hull, for each step.
use Rattle.std.proofs.Common.{arith, subst}
use Rattle.fixed_ops.specs.Counts.{Counts, RisesBy, points_of}
use Rattle.interval_ops.specs.HullCounts.{hulls_of}
use Rattle.choice_trace.specs.Work.{HullsAreExact, PointsAreExact}
use Rattle.fixed_ops.proofs.CountLaws.{same_counts}

pub points_are_exact : PointsAreExact
points_are_exact before after n rise =
    let least = rise.enough in
    let most = rise.within in
    subst (λ (by : Counts). RisesBy before after by)
    (same_counts rise.by (points_of n)
    (omega (arith, least.points, most.points)) (omega (arith, most.spans))
    (omega (arith, most.corners)))
    rise.rises

pub hulls_are_exact : HullsAreExact
hulls_are_exact before after n rise =
    let least = rise.enough in
    let most = rise.within in
    record {
      corners = rise.by.corners;
      few = omega (arith, most.corners);
      rises = subst (λ (by : Counts). RisesBy before after by)
          (same_counts rise.by (hulls_of n rise.by.corners)
          (omega (arith, most.points)) (omega (arith, least.spans, most.spans)) (omega arith))
          rise.rises;
    }

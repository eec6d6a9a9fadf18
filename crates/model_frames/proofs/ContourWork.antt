-- What looking into the boxes of a plane grid takes.
use Rattle.std.proofs.Common.{◌≡◌, ℕ, zero, suc, ◌+◌, ◌*◌, ◌≤◌, Bool, true, false, List, [], ◌∷◌, ◌++◌, length, max, replicate, if◌then◌else◌, Ok, Err, ap, subst, length-append, arith, mul-le-mul_left}
use Rattle.std.specs.Prelude.{OnOk, Result}
use Rattle.std.proofs.lemmas.List.{length-map}
use Rattle.box_chains.specs.Tallied.{CountsAtMost, work_of}
use Rattle.contour_lines.specs.Bound.{contour_least, contour_long_spans, contour_points, contour_spans}
use Rattle.contour_lines.specs.Laws.{ContourPointsAreBounded}
use Rattle.fixed_ops.specs.Counts.{Counts, RisesWithin, risen}
use Rattle.interval_ops.specs.declared.choice.Choice.{Choice}
use Rattle.interval_ops.specs.declared.choice.Choice.TheVariants.{Both}
use Rattle.live_clauses.specs.Choices.{step_at}
use Rattle.live_clauses.specs.Live.{is_kept, live_below, new_place, renumbered, root_of}
use Rattle.live_clauses.specs.Steps.{IsTape, step_of, steps_of}
use Rattle.live_clauses.specs.declared.step.Step.{Step}
use Rattle.model_frames.specs.Work.{CountsWithin, CountsWork, PointsRiseAtMost}
use Rattle.oct_descent.specs.Bound.{CountsAtLeast, CountsHullsAtLeast}
use Rattle.solid_model.specs.declared.clause.Clause.{Clause}
use Rattle.view_places.specs.Window.{IsWindow, Window}
use Rattle.model_frames.specs.Contours.{contour_work, plain_contour}
use Rattle.model_frames.proofs.ContourLeast.{least-most, long-all}

-- no more steps are kept than there are
kept-few : (steps : List Step) (choices : List Choice) (n : ℕ) → length (live_below steps choices n) ≤ n
kept-few steps choices zero = omega arith
kept-few steps choices (suc n) =
    one-more (live_below steps choices n) (renumbered (new_place steps choices) (step_at steps n)) (is_kept steps choices n) n (kept-few steps choices n)
  where
    one-more : (front : List Step) (step : Step) (kept : Bool) (n : ℕ) → length front ≤ n → length (front ++ (if kept then step ∷ [] else [])) ≤ suc n
    one-more front step true n few = omega (arith, few, length-append front (step ∷ []))
    one-more front step false n few = omega (arith, few, length-append front [])

-- a root list is no longer than the clauses
root-few : (clauses : List Clause) → length (root_of clauses) ≤ length clauses
root-few clauses =
    omega (arith, kept-few (steps_of clauses) (replicate (length clauses) Both) (length (steps_of clauses)), length-map clauses step_of)

-- what is counted of a list is counted of its root list
pub contour_within : (before after : Counts) (view : Window) (clauses : List Clause) (list : List Step) → list ≡ root_of clauses
    → CountsAtMost (contour_points view list) (contour_spans view list) before after → CountsWithin before after (contour_work view clauses)
unfolding CountsWithin
contour_within before after view clauses list is h =
    let root = subst (λ l. CountsAtMost (contour_points view l) (contour_spans view l) before after) is h in
    record { by = root.by; within = root.few; rises = root.rises }

-- a count that rises by some number and by another, too, rises by the greater
risen-between : (before after few many low : ℕ) → after ≡ risen before few → after ≡ risen before many → low ≤ many → after ≡ risen before (max few low)
risen-between before after few many low a b less = omega (arith, a, b, less)

counts-same : (counts : Counts) (points spans corners : ℕ) → counts.points ≡ points → counts.spans ≡ spans → counts.corners ≡ corners
    → counts ≡ work_of points spans corners
counts-same counts points spans corners p s c = λ k. record { points = p k; spans = s k; corners = c k }

-- what is counted at most and at least lies between these
between : (before after : Counts) (points spans low long : ℕ) → low ≤ points → long ≤ spans → CountsAtMost points spans before after
    → CountsAtLeast low before after → CountsHullsAtLeast long before after → RisesWithin before after (work_of low long 0) (work_of points spans (4 * spans))
between before after points spans low long p s h few hulls = record {
  by = work_of (max h.by.points low) (max h.by.spans long) h.by.corners;
  enough = record { points = omega arith; spans = omega arith; corners = omega arith };
  within = record {
    points = omega (arith, h.few.points, p);
    spans = omega (arith, h.few.spans, s);
    corners = h.few.corners;
  };
  rises = counts-same after (risen before.points (max h.by.points low)) (risen before.spans (max h.by.spans long)) (risen before.corners h.by.corners)
      (risen-between before.points after.points h.by.points few.by.points low (ap (λ c. c.points) h.rises) (ap (λ c. c.points) few.rises) few.many)
      (risen-between before.spans after.spans h.by.spans hulls.by.spans long (ap (λ c. c.spans) h.rises) (ap (λ c. c.spans) hulls.rises) hulls.many)
      (ap (λ c. c.corners) h.rises);
}

-- so it is of a contour that is drawn
done : (before after : Counts) (view : Window) (clauses : List Clause) (list : List Step) → list ≡ root_of clauses
    → CountsAtMost (contour_points view list) (contour_spans view list) before after → CountsAtLeast (contour_least view list) before after
    → CountsHullsAtLeast (contour_long_spans view list) before after → CountsWork before after (contour_work view clauses)
unfolding CountsWork
done before after view clauses list is h points hulls =
    let root = root_of clauses in
    between before after (contour_points view root) (contour_spans view root) (contour_least view root) (contour_long_spans view root) (least-most view root) (long-all view root)
    (subst (λ l. CountsAtMost (contour_points view l) (contour_spans view l) before after) is h)
    (subst (λ l. CountsAtLeast (contour_least view l) before after) is points)
    (subst (λ l. CountsHullsAtLeast (contour_long_spans view l) before after) is hulls)

pub contour_counted : {T E : Type 0} (r : Result T E) (before after : Counts) (view : Window) (clauses : List Clause) (list : List Step) → list ≡ root_of clauses
    → CountsAtMost (contour_points view list) (contour_spans view list) before after → CountsAtLeast (contour_least view list) before after
    → CountsHullsAtLeast (contour_long_spans view list) before after → OnOk r (CountsWork before after (contour_work view clauses))
contour_counted (Err e) before after view clauses list is h points hulls = tt
contour_counted (Ok y) before after view clauses list is h points hulls = done before after view clauses list is h points hulls

-- a contour takes no more evaluations than evaluating each clause at each point of the grid
pub contour_plain : (before after : Counts) (view : Window) (clauses : List Clause) (list : List Step) → list ≡ root_of clauses → IsWindow view → IsTape list
    → ContourPointsAreBounded → CountsWithin before after (contour_work view clauses) → PointsRiseAtMost before after (plain_contour view (length clauses))
unfolding CountsWithin
contour_plain before after view clauses list is window tape points h =
    let most = points view (root_of clauses) window (subst IsTape is tape) in
    let less : (view.nx + 1) * (view.ny + 1) * length (root_of clauses) ≤ plain_contour view (length clauses) = mul-le-mul_left ((view.nx + 1) * (view.ny + 1)) (root-few clauses) in
    record { by = h.by.points; few = omega (arith, most, less, h.within.points); rises = ap (λ c. c.points) h.rises }

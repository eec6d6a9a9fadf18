-- The work of an image is bounded and counted, and its pixels are those of the solid.
use Rattle.std.proofs.Common.{◌≡◌, ℕ, zero, suc, ◌+◌, ◌*◌, ◌≤◌, Bool, true, false, List, [], ◌∷◌, ◌++◌, length, map, replicate, if◌then◌else◌, ap, subst, ◌∙◌, arith, mul-le-mul, mul-le-mul_left}
use Rattle.std.specs.Prelude.{Option, Some, Result, Ok, Err, IfOk, OnOk, OnErr}
use Rattle.std.specs.List.{flat_map, range_with_len}
use Rattle.std.proofs.lemmas.List.{length-append, length-map}
use Rattle.fixed_ops.specs.Counts.{Counts}
use Rattle.fixed_ops.specs.Points.{Point}
use Rattle.fixed_ops.specs.Raw.{is_inside}
use Rattle.interval_ops.specs.declared.choice.Choice.{Choice}
use Rattle.interval_ops.specs.declared.choice.Choice.TheVariants.{Both}
use Rattle.live_clauses.specs.Choices.{step_at}
use Rattle.live_clauses.specs.Live.{is_kept, live_below, new_place, renumbered, root_of}
use Rattle.live_clauses.specs.Steps.{IsTape, step_of, steps_of, tape_value}
use Rattle.live_clauses.specs.declared.step.Step.{Step}
use Rattle.quad_descent.specs.Laws.{FrameWorkIsBounded, FreshPointsAreBounded, FreshSpansAreBounded}
use Rattle.quad_descent.specs.Pixels.{pixels_of as drawn_pixels}
use Rattle.box_chains.specs.Tallied.{CountsAtMost, CountsExactly, work_of}
use Rattle.quad_descent.specs.Raster.{Drawing, frame_points, frame_spans, fresh_points, fresh_spans}
use Rattle.raster_pgm.specs.Pgm.{pgm_of}
use Rattle.solid_model.specs.Values.{solid_value}
use Rattle.solid_model.specs.declared.clause.Clause.{Clause}
use Rattle.view_places.specs.Places.{raster_point}
use Rattle.view_places.specs.Window.{IsWindow, Window}
use Rattle.model_frames.specs.Images.{drawn_text, image_of, list_before, solid_pixels, plain_points}
use Rattle.model_frames.specs.Work.{CountsWithin, CountsWork, FitsCounts, PointsRiseAtMost, Work, exactly, frame_work, image_work}

-- an error says what holds anyway
pub on_err : {T E : Type 0} (r : Result T E) (P : Type 0) → P → OnErr r P
on_err (Ok x) P p = tt
on_err (Err e) P p = p

-- and so does a success
pub on_ok : {T E : Type 0} (r : Result T E) (P : Type 0) → P → OnOk r P
on_ok (Ok x) P p = p
on_ok (Err e) P p = tt

-- what holds of a success and of an error holds
pub either_way : {T E : Type 0} (r : Result T E) (P Q R : Type 0) → (P → R) → (Q → R) → OnOk r P → OnErr r Q → R
either_way (Ok x) P Q R f g p q = f p
either_way (Err e) P Q R f g p q = g q

-- a pixel is of its own value: where a list has the solid's value, its image is the solid's
pub pixels-same : (view : Window) (clauses : List Clause) (list : List Step) → ((p : Point) → tape_value p list ≡ solid_value p clauses)
    → drawn_pixels view list ≡ solid_pixels view clauses
pixels-same view clauses list same =
    λ k. flat_map (λ j. map (λ i. if is_inside (same (raster_point view i j) k) then 255 else 0) (range_with_len 0 view.w)) (range_with_len 0 view.h)

-- so is its text
pub text-same : (view : Window) (clauses : List Clause) (list : List Step) (image : Drawing) → image ≡ record { view = view; list = list }
    → ((p : Point) → tape_value p list ≡ solid_value p clauses) → drawn_text (Some image) ≡ image_of view clauses
text-same view clauses list image is values = ap (λ d. drawn_text (Some d)) is ∙ ap (pgm_of view.w view.h) (pixels-same view clauses list values)

pub text-drawn : {T E : Type 0} (r : Result T E) (view : Window) (clauses : List Clause) (list : List Step) (image : T → Drawing) → ((p : Point) → tape_value p list ≡ solid_value p clauses)
    → IfOk r (λ t. image t ≡ record { view = view; list = list }) → IfOk r (λ t. drawn_text (Some (image t)) ≡ image_of view clauses)
text-drawn (Ok t) view clauses list image values is = text-same view clauses list (image t) is values
text-drawn (Err e) view clauses list image values is = tt

-- no more steps are kept than there are
kept-few : (steps : List Step) (choices : List Choice) (n : ℕ) → length (live_below steps choices n) ≤ n
kept-few steps choices zero = omega arith
kept-few steps choices (suc n) =
    one-more (live_below steps choices n) (renumbered (new_place steps choices) (step_at steps n)) (is_kept steps choices n) n (kept-few steps choices n)
  where
    one-more : (front : List Step) (step : Step) (kept : Bool) (n : ℕ) → length front ≤ n → length (front ++ (if kept then step ∷ [] else [])) ≤ suc n
    one-more front step true n few = omega (arith, few, length-append front (step ∷ []))
    one-more front step false n few = omega (arith, few, length-append front [])

-- a root list is no longer than the clauses
pub root-few : (clauses : List Clause) → length (root_of clauses) ≤ length clauses
root-few clauses =
    omega (arith, kept-few (steps_of clauses) (replicate (length clauses) Both) (length (steps_of clauses)), length-map clauses step_of)

-- a fresh image takes no more evaluations than evaluating each clause at each sample
pub fresh-plain : (view : Window) (clauses : List Clause) → fresh_points view (root_of clauses) ≤ view.w * view.h * length (root_of clauses)
    → (frame_work view clauses).most.points ≤ plain_points view (length clauses)
fresh-plain view clauses few = omega (arith, few, mul-le-mul_left (view.w * view.h) (root-few clauses))

-- and its work fits a count
pub fresh-fits : (view : Window) (clauses : List Clause) → IsWindow view → IsTape (root_of clauses)
    → fresh_points view (root_of clauses) ≤ view.w * view.h * length (root_of clauses)
    → fresh_spans view (root_of clauses) ≤ view.w * view.h * ((view.w + view.h + 1) * length (root_of clauses))
    → FitsCounts (frame_work view clauses)
fresh-fits view clauses is tape few low =
    let samples : view.w * view.h ≤ 4096 * 4096 = mul-le-mul is.w.few is.h.few in
    let points : view.w * view.h * length (root_of clauses) ≤ 4096 * 4096 * 65535 = mul-le-mul samples tape.few in
    let deep : view.w + view.h + 1 ≤ 8193 = omega (arith, is.w.few, is.h.few) in
    let turns : (view.w + view.h + 1) * length (root_of clauses) ≤ 8193 * 65535 = mul-le-mul deep tape.few in
    let spans : view.w * view.h * ((view.w + view.h + 1) * length (root_of clauses)) ≤ 4096 * 4096 * (8193 * 65535) = mul-le-mul samples turns in
    record { points = omega (arith, few, points); spans = omega (arith, low, spans) }

-- what is drawn is a root list
pub drawn_fits : (view : Window) (clauses : List Clause) (list : List Step) → list ≡ root_of clauses → IsWindow view → IsTape list
    → FreshPointsAreBounded → FreshSpansAreBounded → FitsCounts (frame_work view clauses)
drawn_fits view clauses list is window tape points spans =
    let root : IsTape (root_of clauses) = subst IsTape is tape in
    fresh-fits view clauses window root (points view (root_of clauses) window root) (spans view (root_of clauses) window root)

pub drawn_few : (view : Window) (clauses : List Clause) (list : List Step) → list ≡ root_of clauses → IsWindow view → IsTape list
    → FreshPointsAreBounded → (frame_work view clauses).most.points ≤ plain_points view (length clauses)
drawn_few view clauses list is window tape points =
    let root : IsTape (root_of clauses) = subst IsTape is tape in
    fresh-plain view clauses (points view (root_of clauses) window root)

-- work that is counted exactly is done, and within its bound
pub exactly-done : (before after : Counts) (points spans plain : ℕ) → CountsExactly points spans before after → CountsWork before after (exactly points spans plain)
unfolding CountsWork
exactly-done before after points spans plain h = record {
  by = work_of points spans h.corners;
  enough = record { points = omega arith; spans = omega arith; corners = omega arith };
  within = record { points = omega arith; spans = omega arith; corners = h.few };
  rises = h.rises;
}

exactly-within : (before after : Counts) (points spans plain : ℕ) → CountsExactly points spans before after → CountsWithin before after (exactly points spans plain)
unfolding CountsWithin
exactly-within before after points spans plain h = record {
  by = work_of points spans h.corners;
  within = record { points = omega arith; spans = omega arith; corners = h.few };
  rises = h.rises;
}

-- so is work that was counted up to where memory was refused
pub stopped-within : (before after : Counts) (points spans plain : ℕ) → CountsAtMost points spans before after → CountsWithin before after (exactly points spans plain)
unfolding CountsWithin
stopped-within before after points spans plain h = record { by = h.by; within = h.few; rises = h.rises }

-- what is within a bound rises in evaluations by no more than that has
pub plain-within : (before after : Counts) (work : Work) (most : ℕ) → work.bound.points ≤ most → CountsWithin before after work → PointsRiseAtMost before after most
unfolding CountsWithin
plain-within before after work most few h =
    record { by = h.by.points; few = omega (arith, few, h.within.points); rises = ap (λ c. c.points) h.rises }

-- an image after another takes no more than a fresh one
pub after-few : (view : Window) (clauses : List Clause) (list : List Step) (before : Option Drawing) → list ≡ root_of clauses → IsWindow view → IsTape list
    → FreshPointsAreBounded → FrameWorkIsBounded → (image_work before view clauses).most.points ≤ plain_points view (length clauses)
after-few view clauses list before is window tape points frames =
    omega (arith, drawn_few view clauses list is window tape points, frames.most_points view (list_before before view) (root_of clauses))

pub after-fits : (view : Window) (clauses : List Clause) (list : List Step) (before : Option Drawing) → list ≡ root_of clauses → IsWindow view → IsTape list
    → FreshPointsAreBounded → FreshSpansAreBounded → FrameWorkIsBounded → FitsCounts (image_work before view clauses)
after-fits view clauses list before is window tape points spans frames =
    let fresh = drawn_fits view clauses list is window tape points spans in
    record {
      points = omega (arith, fresh.points, frames.most_points view (list_before before view) (root_of clauses));
      spans = omega (arith, fresh.spans, frames.most_spans view (list_before before view) (root_of clauses));
    }

-- what a list counts is what its root list does
pub image_counted : {T E : Type 0} (r : Result T E) (before after : Counts) (was : Option Drawing) (view : Window) (clauses : List Clause) (list : List Step) → list ≡ root_of clauses
    → OnOk r (CountsExactly (frame_points view (list_before was view) list) (frame_spans view (list_before was view) list) before after)
    → OnOk r (CountsWork before after (image_work was view clauses))
image_counted (Err e) before after was view clauses list is h = tt
image_counted (Ok x) before after was view clauses list is h =
    exactly-done before after (frame_points view (list_before was view) (root_of clauses)) (frame_spans view (list_before was view) (root_of clauses)) (plain_points view (length clauses))
    (subst (λ l. CountsExactly (frame_points view (list_before was view) l) (frame_spans view (list_before was view) l) before after) is h)

pub image_within : {T E : Type 0} (r : Result T E) (before after : Counts) (was : Option Drawing) (view : Window) (clauses : List Clause) (list : List Step) → list ≡ root_of clauses
    → OnOk r (CountsExactly (frame_points view (list_before was view) list) (frame_spans view (list_before was view) list) before after)
    → OnErr r (CountsAtMost (frame_points view (list_before was view) list) (frame_spans view (list_before was view) list) before after) → CountsWithin before after (image_work was view clauses)
image_within (Ok x) before after was view clauses list is h some =
    exactly-within before after (frame_points view (list_before was view) (root_of clauses)) (frame_spans view (list_before was view) (root_of clauses)) (plain_points view (length clauses))
    (subst (λ l. CountsExactly (frame_points view (list_before was view) l) (frame_spans view (list_before was view) l) before after) is h)
image_within (Err e) before after was view clauses list is all h =
    stopped-within before after (frame_points view (list_before was view) (root_of clauses)) (frame_spans view (list_before was view) (root_of clauses)) (plain_points view (length clauses))
    (subst (λ l. CountsAtMost (frame_points view (list_before was view) l) (frame_spans view (list_before was view) l) before after) is h)

-- what a list counts is what its root list does
pub drawn_counted : {T E : Type 0} (r : Result T E) (before after : Counts) (view : Window) (clauses : List Clause) (list : List Step) → list ≡ root_of clauses
    → OnOk r (CountsExactly (fresh_points view list) (fresh_spans view list) before after) → OnOk r (CountsWork before after (frame_work view clauses))
drawn_counted (Err e) before after view clauses list is h = tt
drawn_counted (Ok x) before after view clauses list is h =
    exactly-done before after (fresh_points view (root_of clauses)) (fresh_spans view (root_of clauses)) (plain_points view (length clauses))
    (subst (λ l. CountsExactly (fresh_points view l) (fresh_spans view l) before after) is h)

pub drawn_within : {T E : Type 0} (r : Result T E) (before after : Counts) (view : Window) (clauses : List Clause) (list : List Step) → list ≡ root_of clauses
    → OnOk r (CountsExactly (fresh_points view list) (fresh_spans view list) before after)
    → OnErr r (CountsAtMost (fresh_points view list) (fresh_spans view list) before after) → CountsWithin before after (frame_work view clauses)
drawn_within (Ok x) before after view clauses list is h some =
    exactly-within before after (fresh_points view (root_of clauses)) (fresh_spans view (root_of clauses)) (plain_points view (length clauses))
    (subst (λ l. CountsExactly (fresh_points view l) (fresh_spans view l) before after) is h)
drawn_within (Err e) before after view clauses list is all h =
    stopped-within before after (fresh_points view (root_of clauses)) (fresh_spans view (root_of clauses)) (plain_points view (length clauses))
    (subst (λ l. CountsAtMost (fresh_points view l) (fresh_spans view l) before after) is h)

-- The shades of a list are those of the solid, and their work is bounded.
use Rattle.std.proofs.Common.{◌≡◌, ℕ, ◌+◌, ◌-◌, ◌*◌, ◌==◌, ◌≤◌, List, length, map, if◌then◌else◌, subst, arith, mul-le-mul_left}
use Rattle.std.specs.Prelude.{Err, IfOk, Ok, OnOk, Result}
use Rattle.std.specs.List.{flat_map, range_with_len}
use Rattle.box_chains.specs.Sums.{maximum}
use Rattle.box_chains.specs.Tallied.{CountsAtMost, CountsExactly}
use Rattle.fixed_ops.specs.Counts.{Counts}
use Rattle.fixed_ops.specs.Points.{Point}
use Rattle.fixed_ops.specs.Raw.{is_inside}
use Rattle.height_map.specs.Laws.{HeightPointsAreBounded}
use Rattle.live_clauses.specs.Live.{root_of}
use Rattle.live_clauses.specs.Meanings.{sloped_at, tape_meaning}
use Rattle.live_clauses.specs.Steps.{IsTape, tape_value}
use Rattle.live_clauses.specs.declared.step.Step.{Step}
use Rattle.normal_shade.specs.Laws.{ShadePointsAreBounded}
use Rattle.normal_shade.specs.Shades.{lit, shade_points, shade_spans, shades_of}
use Rattle.solid_model.specs.Slopes.{solid_sloped}
use Rattle.solid_model.specs.Values.{solid_value}
use Rattle.solid_model.specs.declared.clause.Clause.{Clause}
use Rattle.view_places.specs.Places.{point_of}
use Rattle.view_places.specs.Window.{IsWindow, Window}
use Rattle.view_places.specs.declared.lattice.Lattice.TheVariants.{Height}
use Rattle.model_frames.specs.Laws.{FramesAddUp}
use Rattle.model_frames.specs.Shades.{plain_shades, solid_shades}
use Rattle.model_frames.specs.Work.{CountsWithin, CountsWork, PointsRiseAtMost, Work, both, height_work, shade_work, slopes_work}
use Rattle.model_frames.proofs.Frames.{exactly-done, plain-within, root-few, stopped-within}

-- the light on the top sample of a column is that of its own slopes: where a list has the solid's values
-- and slopes, its shades are the solid's
pub shades-same : (view : Window) (clauses : List Clause) (list : List Step)
    → ((p : Point) → tape_value p list ≡ solid_value p clauses)
    → ((p : Point) → tape_meaning (sloped_at p) list ≡ solid_sloped p clauses)
    → shades_of view list ≡ solid_shades view clauses
shades-same view clauses list values slopes =
    let deep : view.d - 0 ≡ view.d = omega arith in
    λ k. flat_map (λ j. map (λ i.
    let top = maximum (map (λ n. if is_inside (values (point_of view Height i j n) k) then n + 1 else 0)
    (range_with_len 0 (deep k))) in
    if top == 0 then 0 else lit (slopes (point_of view Height i j (top - 1)) k))
    (range_with_len 0 view.w)) (range_with_len 0 view.h)

-- what evaluating each clause would take bears on no work
with-plain : (first last : Counts) (work : Work) (plain : ℕ) → CountsWork first last work
    → CountsWork first last (record work { plain = plain })
unfolding CountsWork
with-plain first last work plain h = h

with-plain-within : (first last : Counts) (work : Work) (plain : ℕ) → CountsWithin first last work
    → CountsWithin first last (record work { plain = plain })
unfolding CountsWithin
with-plain-within first last work plain h = h

-- a shaded height map is its height map, and then its slopes
pub shades_counted : {T E : Type 0} (r : Result T E) (first mid last : Counts) (view : Window) (clauses : List Clause)
    (list : List Step) → FramesAddUp → list ≡ root_of clauses → CountsWork first mid (height_work view clauses)
    → OnOk r (CountsExactly (shade_points view list) (shade_spans view list) mid last)
    → OnOk r (CountsWork first last (shade_work view clauses))
shades_counted (Err e) first mid last view clauses list frames is done h = tt
shades_counted (Ok x) first mid last view clauses list frames is done h =
    let root = root_of clauses in
    let slopes = exactly-done mid last (shade_points view root) (shade_spans view root)
    (10 * (view.h * view.w * length clauses))
    (subst (λ l. CountsExactly (shade_points view l) (shade_spans view l) mid last) is h) in
    with-plain first last (both (height_work view clauses) (slopes_work view clauses)) (plain_shades view (length clauses))
    (frames.sum first mid last (height_work view clauses) (slopes_work view clauses) done slopes)

pub shades_within : (first mid last : Counts) (view : Window) (clauses : List Clause) (list : List Step) → FramesAddUp
    → list ≡ root_of clauses → CountsWithin first mid (height_work view clauses)
    → CountsAtMost (shade_points view list) (shade_spans view list) mid last
    → CountsWithin first last (shade_work view clauses)
shades_within first mid last view clauses list frames is done h =
    let root = root_of clauses in
    let slopes = stopped-within mid last (shade_points view root) (shade_spans view root)
    (10 * (view.h * view.w * length clauses))
    (subst (λ l. CountsAtMost (shade_points view l) (shade_spans view l) mid last) is h) in
    with-plain-within first last (both (height_work view clauses) (slopes_work view clauses)) (plain_shades view (length clauses))
    (frames.within_sum first mid last (height_work view clauses) (slopes_work view clauses) done slopes)

-- and its height map alone is within it
pub heights-alone : (first mid : Counts) (view : Window) (clauses : List Clause) → FramesAddUp
    → CountsWithin first mid (height_work view clauses) → CountsWithin first mid (shade_work view clauses)
heights-alone first mid view clauses frames done =
    with-plain-within first mid (both (height_work view clauses) (slopes_work view clauses)) (plain_shades view (length clauses))
    (frames.within_more first mid (height_work view clauses) (slopes_work view clauses) done)

-- it takes no more evaluations than evaluating each clause at each sample, and ten times more in each column
shades-few : (view : Window) (clauses : List Clause) → IsWindow view → IsTape (root_of clauses)
    → HeightPointsAreBounded → ShadePointsAreBounded
    → (shade_work view clauses).bound.points ≤ plain_shades view (length clauses)
shades-few view clauses window tape heights shades =
    let few = length (root_of clauses) in
    let samples : view.w * view.h * view.d * few + 10 * (view.h * view.w * few) ≡ view.w * view.h * (view.d + 10) * few = grind arith in
    omega (
      arith,
      heights view (root_of clauses) window tape,
      shades view (root_of clauses) window tape,
      samples,
      mul-le-mul_left (view.w * view.h * (view.d + 10)) (root-few clauses),
    )

pub shades_plain : (before after : Counts) (view : Window) (clauses : List Clause) (list : List Step) → list ≡ root_of clauses
    → IsWindow view → IsTape list → HeightPointsAreBounded → ShadePointsAreBounded
    → CountsWithin before after (shade_work view clauses) → PointsRiseAtMost before after (plain_shades view (length clauses))
shades_plain before after view clauses list is window tape heights shades h =
    plain-within before after (shade_work view clauses) (plain_shades view (length clauses))
    (shades-few view clauses window (subst IsTape is tape) heights shades) h

-- the pixels are the solid's
pub pixels_shaded : {T E : Type 0} (r : Result T E) (items : T → List ℕ) (view : Window) (clauses : List Clause) (list : List Step)
    → ((p : Point) → tape_value p list ≡ solid_value p clauses)
    → ((p : Point) → tape_meaning (sloped_at p) list ≡ solid_sloped p clauses)
    → IfOk r (λ pixels. items pixels ≡ shades_of view list) → IfOk r (λ pixels. items pixels ≡ solid_shades view clauses)
pixels_shaded r items view clauses list values slopes =
    subst (λ shades. IfOk r (λ pixels. items pixels ≡ shades)) (shades-same view clauses list values slopes)

use Rattle.std.proofs.Common.{◌≡◌, ap, subst, ◌∙◌}
use Rattle.std.specs.Prelude.{Ok}
use Rattle.fixed_ops.specs.Points.{Point}
use Rattle.live_clauses.specs.Meanings.{sloped_at, tape_meaning}
use Rattle.live_clauses.specs.Steps.{IsTape}
use Rattle.solid_model.specs.Slopes.{solid_sloped}
use Rattle.model_frames.specs.Work.{CountsWithin, shade_work}
use Rattle.model_frames.proofs.Depths.{heights_counted, heights_within}
use Rattle.model_frames.proofs.Shades.{heights-alone, pixels_shaded, shades_counted, shades_plain, shades_within}
use Rattle.model_frames.proofs.WorkLaws.{frames_add_up_is, within-none}
use Rattle.live_clauses.proofs.SlopeLaws.{root_has_the_slopes}
use Rattle.model_frames.proofs.DescentLaws.{height_points_are_bounded, shade_points_are_bounded}
use Rattle.model_frames.proofs.shading.shade_pixels.Goals as goal

pub returns-in_err-list-clause-at_most : goal.returns-in_err-list-clause-at_most
returns-in_err-list-clause-at_most c = within-none c.args.tally.now _

pub returns-in_err-map-clause-at_most : goal.returns-in_err-map-clause-at_most
returns-in_err-map-clause-at_most c =
    let view = c.args.view.now in
    let clauses = c.args.model.now in
    heights-alone c.args.tally.now c.heights.new.tally view clauses frames_add_up_is
    (heights_within c.args.tally.now c.heights.new.tally view clauses c.in_ok-list.list c.in_ok-list.ensures.live
    c.heights.ensures.at_most)

pub returns-in_err-map-clause-plain : goal.returns-in_err-map-clause-plain
returns-in_err-map-clause-plain c =
    let view = c.args.view.now in
    let clauses = c.args.model.now in
    let within : CountsWithin c.args.tally.now c.heights.new.tally (shade_work view clauses) =
    heights-alone c.args.tally.now c.heights.new.tally view clauses frames_add_up_is
    (heights_within c.args.tally.now c.heights.new.tally view clauses c.in_ok-list.list c.in_ok-list.ensures.live
    c.heights.ensures.at_most) in
    shades_plain c.args.tally.now c.heights.new.tally view clauses c.in_ok-list.list c.in_ok-list.ensures.live
    c.window_holds.ensures (subst IsTape c.list.view_is c.list.invariant) height_points_are_bounded
    shade_points_are_bounded within

pub returns-clause-ok : goal.returns-clause-ok
returns-clause-ok c =
    let list = c.in_ok-list.list in
    let clauses = c.args.model.now in
    let slopes : (p : Point) → tape_meaning (sloped_at p) list ≡ solid_sloped p clauses =
    λ p. ap (tape_meaning (sloped_at p)) c.in_ok-list.ensures.live ∙ root_has_the_slopes p clauses c.model_holds.ensures in
    pixels_shaded c.shade.result (λ pixels. pixels.items) c.args.view.now clauses list c.in_ok-list.ensures.value slopes
    c.shade.ensures.pixels

pub returns-clause-counted : goal.returns-clause-counted
returns-clause-counted c =
    let view = c.args.view.now in
    let clauses = c.args.model.now in
    let list = c.in_ok-list.list in
    let live = c.in_ok-list.ensures.live in
    shades_counted c.shade.result c.args.tally.now c.heights.new.tally c.shade.new.tally view clauses list
    frames_add_up_is live
    (heights_counted {T = Unit {0}} {E = Unit {0}} (Ok tt) c.args.tally.now c.heights.new.tally view clauses list live
    c.in_ok-map.ensures.at_most c.in_ok-map.ensures.points c.in_ok-map.ensures.hulls)
    c.shade.ensures.counted

pub returns-clause-at_most : goal.returns-clause-at_most
returns-clause-at_most c =
    let view = c.args.view.now in
    let clauses = c.args.model.now in
    let list = c.in_ok-list.list in
    let live = c.in_ok-list.ensures.live in
    shades_within c.args.tally.now c.heights.new.tally c.shade.new.tally view clauses list frames_add_up_is live
    (heights_within c.args.tally.now c.heights.new.tally view clauses list live c.in_ok-map.ensures.at_most)
    c.shade.ensures.at_most

pub returns-clause-plain : goal.returns-clause-plain
returns-clause-plain c =
    let view = c.args.view.now in
    let clauses = c.args.model.now in
    let list = c.in_ok-list.list in
    let live = c.in_ok-list.ensures.live in
    shades_plain c.args.tally.now c.shade.new.tally view clauses list live c.window_holds.ensures
    (subst IsTape c.list.view_is c.list.invariant) height_points_are_bounded
    shade_points_are_bounded
    (shades_within c.args.tally.now c.heights.new.tally c.shade.new.tally view clauses list frames_add_up_is live
    (heights_within c.args.tally.now c.heights.new.tally view clauses list live c.in_ok-map.ensures.at_most)
    c.shade.ensures.at_most)

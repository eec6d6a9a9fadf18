use Rattle.std.proofs.Common.{length, subst}
use Rattle.live_clauses.specs.Steps.{IsTape}
use Rattle.model_frames.specs.Images.{plain_points}
use Rattle.model_frames.specs.Work.{image_work}
use Rattle.model_frames.proofs.WorkLaws.{within-none}
use Rattle.model_frames.proofs.Frames.{after-few, after-fits, image_counted, image_within, on_ok, plain-within, text-drawn}
use Rattle.model_frames.proofs.DescentLaws.{frame_work_is_bounded, image_points_are_bounded, image_spans_are_bounded}
use Rattle.model_frames.proofs.redrawn.redraw_image.Goals as goal

pub returns-in_err-list-clause-at_most : goal.returns-in_err-list-clause-at_most
returns-in_err-list-clause-at_most c = within-none c.args.tally.now (image_work c.args.before c.args.view.now c.args.model.now)

pub returns-clause-text : goal.returns-clause-text
returns-clause-text c =
    text-drawn c.draw_after.result c.args.view.now c.args.model.now c.in_ok-list.list (λ tree. tree) c.in_ok-list.ensures.value c.draw_after.ensures.tree

pub returns-clause-fits : goal.returns-clause-fits
returns-clause-fits c =
    on_ok _ _ (after-fits c.args.view.now c.args.model.now c.in_ok-list.list c.args.before c.in_ok-list.ensures.live c.window_holds.ensures
    (subst IsTape c.list.view_is c.list.invariant) image_points_are_bounded image_spans_are_bounded frame_work_is_bounded)

pub returns-clause-counted : goal.returns-clause-counted
returns-clause-counted c =
    image_counted c.draw_after.result c.args.tally.now c.draw_after.new.tally c.args.before c.args.view.now c.args.model.now c.in_ok-list.list c.in_ok-list.ensures.live
    c.draw_after.ensures.counted

pub returns-clause-at_most : goal.returns-clause-at_most
returns-clause-at_most c =
    image_within c.draw_after.result c.args.tally.now c.draw_after.new.tally c.args.before c.args.view.now c.args.model.now c.in_ok-list.list c.in_ok-list.ensures.live
    c.draw_after.ensures.counted c.draw_after.ensures.at_most

pub returns-clause-plain : goal.returns-clause-plain
returns-clause-plain c =
    let view = c.args.view.now in
    let clauses = c.args.model.now in
    plain-within c.args.tally.now c.draw_after.new.tally (image_work c.args.before view clauses) (plain_points view (length clauses))
    (after-few view clauses c.in_ok-list.list c.args.before c.in_ok-list.ensures.live c.window_holds.ensures
    (subst IsTape c.list.view_is c.list.invariant) image_points_are_bounded frame_work_is_bounded)
    (image_within c.draw_after.result c.args.tally.now c.draw_after.new.tally c.args.before view clauses c.in_ok-list.list c.in_ok-list.ensures.live
    c.draw_after.ensures.counted c.draw_after.ensures.at_most)

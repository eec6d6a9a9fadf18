use Rattle.std.proofs.Common.{length, subst}
use Rattle.live_clauses.specs.Steps.{IsTape}
use Rattle.model_frames.specs.Images.{plain_points}
use Rattle.model_frames.specs.Work.{frame_work}
use Rattle.model_frames.proofs.WorkLaws.{within-none}
use Rattle.model_frames.proofs.Frames.{drawn_counted, drawn_few, drawn_fits, drawn_within, on_ok, plain-within, text-drawn}
use Rattle.model_frames.proofs.DescentLaws.{image_points_are_bounded, image_spans_are_bounded}
use Rattle.model_frames.proofs.render.draw_image.Goals as goal

pub returns-in_err-list-clause-at_most : goal.returns-in_err-list-clause-at_most
returns-in_err-list-clause-at_most c = within-none c.args.tally.now (frame_work c.args.view.now c.args.model.now)

pub returns-clause-text : goal.returns-clause-text
returns-clause-text c =
    text-drawn c.draw_picture.result c.args.view.now c.args.model.now c.in_ok-list.list (λ picture. picture) c.in_ok-list.ensures.value c.draw_picture.ensures.picture

pub returns-clause-counted : goal.returns-clause-counted
returns-clause-counted c =
    drawn_counted c.draw_picture.result c.args.tally.now c.draw_picture.new.tally c.args.view.now c.args.model.now c.in_ok-list.list c.in_ok-list.ensures.live c.draw_picture.ensures.counted

pub returns-clause-at_most : goal.returns-clause-at_most
returns-clause-at_most c =
    drawn_within c.draw_picture.result c.args.tally.now c.draw_picture.new.tally c.args.view.now c.args.model.now c.in_ok-list.list c.in_ok-list.ensures.live c.draw_picture.ensures.counted c.draw_picture.ensures.at_most

pub returns-clause-fits : goal.returns-clause-fits
returns-clause-fits c =
    on_ok _ _ (drawn_fits c.args.view.now c.args.model.now c.in_ok-list.list c.in_ok-list.ensures.live c.window_holds.ensures
    (subst IsTape c.list.view_is c.list.invariant) image_points_are_bounded image_spans_are_bounded)

pub returns-clause-plain : goal.returns-clause-plain
returns-clause-plain c =
    let view = c.args.view.now in
    let clauses = c.args.model.now in
    let few = drawn_few view clauses c.in_ok-list.list c.in_ok-list.ensures.live c.window_holds.ensures
    (subst IsTape c.list.view_is c.list.invariant) image_points_are_bounded in
    plain-within c.args.tally.now c.draw_picture.new.tally (frame_work view clauses) (plain_points view (length clauses)) few
    (drawn_within c.draw_picture.result c.args.tally.now c.draw_picture.new.tally view clauses c.in_ok-list.list c.in_ok-list.ensures.live c.draw_picture.ensures.counted c.draw_picture.ensures.at_most)

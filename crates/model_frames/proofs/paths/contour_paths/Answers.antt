-- The contour of the root list is the solid's, and its work is bounded.
use Rattle.std.proofs.Common.{◌≡◌, ◌∙◌, refl, subst}
use Rattle.std.specs.Prelude.{IfOk}
use Rattle.std.proofs.lemmas.Result.{IfOk-weaker}
use Rattle.contour_lines.specs.PlaneGrids.{plane_over}
use Rattle.live_clauses.specs.Steps.{IsTape, tape_value}
use Rattle.path_writer.specs.Closed.{AreClosedPaths}
use Rattle.path_writer.specs.Paths.{path_of}
use Rattle.model_frames.specs.Contours.{contour_text, contour_work}
use Rattle.model_frames.proofs.Closed.{contour_same, plane_same}
use Rattle.model_frames.proofs.ContourWork.{contour_counted, contour_plain, contour_within}
use Rattle.path_writer.proofs.Contours.{contours_have_paths}
use Rattle.contour_lines.proofs.Joins.{planes_are_bordered}
use Rattle.model_frames.proofs.WorkLaws.{within-none}
use Rattle.model_frames.proofs.DescentLaws.{contour_points_are_bounded}
use Rattle.model_frames.proofs.paths.contour_paths.Goals as goal

pub returns-in_err-list-clause-at_most : goal.returns-in_err-list-clause-at_most
returns-in_err-list-clause-at_most c = within-none c.args.tally.now (contour_work c.args.view.now c.args.model.now)

pub returns-in_err-loops-clause-at_most : goal.returns-in_err-loops-clause-at_most
returns-in_err-loops-clause-at_most c =
    contour_within c.args.tally.now c.contour.new.tally c.args.view.now c.args.model.now c.in_ok-list.list c.in_ok-list.ensures.live
    c.contour.ensures.at_most

pub returns-in_err-loops-clause-plain : goal.returns-in_err-loops-clause-plain
returns-in_err-loops-clause-plain c =
    contour_plain c.args.tally.now c.contour.new.tally c.args.view.now c.args.model.now c.in_ok-list.list c.in_ok-list.ensures.live
    c.window_holds.ensures (subst IsTape c.list.view_is c.list.invariant) contour_points_are_bounded
    (contour_within c.args.tally.now c.contour.new.tally c.args.view.now c.args.model.now c.in_ok-list.list c.in_ok-list.ensures.live
    c.contour.ensures.at_most)

pub path_text-requires : goal.path_text-requires
path_text-requires c =
    (contours_have_paths c.args.view.now (plane_over c.args.view.now (λ p. tape_value p c.in_ok-list.list)) c.in_ok-loops.loops refl
    c.requires.square c.in_ok-loops.ensures.contour).written

pub returns-clause-ok : goal.returns-clause-ok
returns-clause-ok c =
    let view = c.args.view.now in
    let clauses = c.args.model.now in
    let same = contour_same view clauses
    c.in_ok-list.list c.requires.square c.in_ok-list.ensures.value c.in_ok-loops.loops c.in_ok-loops.ensures.contour in
    IfOk-weaker c.path_text.result (λ text. text.items ≡ path_of view c.in_ok-loops.loops) (λ text. text.items ≡ contour_text view clauses)
    (λ text written. written ∙ same) c.path_text.ensures.text

pub returns-clause-closed : goal.returns-clause-closed
returns-clause-closed c =
    let view = c.args.view.now in
    let list = c.in_ok-list.list in
    let border = planes_are_bordered view (λ p. tape_value p list) c.requires.square in
    subst (λ g. IfOk c.path_text.result (λ text. AreClosedPaths view g text.items)) (plane_same view c.args.model.now list c.in_ok-list.ensures.value)
    (c.path_text.ensures.closed (plane_over view (λ p. tape_value p list)) border c.in_ok-loops.ensures.contour)

pub returns-clause-counted : goal.returns-clause-counted
returns-clause-counted c =
    contour_counted c.path_text.result c.args.tally.now c.contour.new.tally c.args.view.now c.args.model.now c.in_ok-list.list
    c.in_ok-list.ensures.live c.in_ok-loops.ensures.at_most c.in_ok-loops.ensures.at_least c.in_ok-loops.ensures.traced

pub returns-clause-at_most : goal.returns-clause-at_most
returns-clause-at_most c =
    contour_within c.args.tally.now c.contour.new.tally c.args.view.now c.args.model.now c.in_ok-list.list c.in_ok-list.ensures.live
    c.in_ok-loops.ensures.at_most

pub returns-clause-plain : goal.returns-clause-plain
returns-clause-plain c =
    contour_plain c.args.tally.now c.contour.new.tally c.args.view.now c.args.model.now c.in_ok-list.list c.in_ok-list.ensures.live
    c.window_holds.ensures (subst IsTape c.list.view_is c.list.invariant) contour_points_are_bounded
    (contour_within c.args.tally.now c.contour.new.tally c.args.view.now c.args.model.now c.in_ok-list.list c.in_ok-list.ensures.live
    c.in_ok-loops.ensures.at_most)

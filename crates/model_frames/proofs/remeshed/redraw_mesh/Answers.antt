-- The grid of the root list is the solid's, also after another one.
use Rattle.std.proofs.Common.{subst}
use Rattle.live_clauses.specs.Steps.{IsTape}
use Rattle.model_frames.specs.Work.{mesh_work_after}
use Rattle.model_frames.proofs.WorkLaws.{within-none}
use Rattle.model_frames.proofs.GridWork.{text_same}
use Rattle.model_frames.proofs.MeshesAfter.{after_counted, after_plain, after_within}
use Rattle.model_frames.proofs.DescentLaws.{mesh_points_are_bounded, meshes_after_add_up}
use Rattle.model_frames.proofs.remeshed.redraw_mesh.Goals as goal

pub returns-in_err-list-clause-at_most : goal.returns-in_err-list-clause-at_most
returns-in_err-list-clause-at_most c = within-none c.args.tally.now (mesh_work_after c.args.before c.args.view.now c.args.model.now)

pub returns-clause-text : goal.returns-clause-text
returns-clause-text c = text_same c.look_after.result c.args.view.now c.args.model.now c.in_ok-list.list c.in_ok-list.ensures.value c.look_after.ensures.tree

pub returns-clause-counted : goal.returns-clause-counted
returns-clause-counted c =
    after_counted c.look_after.result c.args.tally.now c.look_after.new.tally c.args.before c.args.view.now c.args.model.now c.in_ok-list.list c.in_ok-list.ensures.live
    c.look_after.ensures.counted

pub returns-clause-at_most : goal.returns-clause-at_most
returns-clause-at_most c =
    after_within c.args.tally.now c.look_after.new.tally c.args.before c.args.view.now c.args.model.now c.in_ok-list.list c.in_ok-list.ensures.live c.look_after.ensures.at_most

pub returns-clause-plain : goal.returns-clause-plain
returns-clause-plain c =
    after_plain c.args.tally.now c.look_after.new.tally c.args.before c.args.view.now c.args.model.now c.in_ok-list.list c.in_ok-list.ensures.live c.window_holds.ensures
    (subst IsTape c.list.view_is c.list.invariant) mesh_points_are_bounded meshes_after_add_up
    (after_within c.args.tally.now c.look_after.new.tally c.args.before c.args.view.now c.args.model.now c.in_ok-list.list c.in_ok-list.ensures.live c.look_after.ensures.at_most)

-- The grid of the root list is the solid's.
use Rattle.std.proofs.Common.{subst}
use Rattle.live_clauses.specs.Steps.{IsTape}
use Rattle.model_frames.proofs.WorkLaws.{within-none}
use Rattle.model_frames.proofs.GridWork.{mesh_counted_then, mesh_plain, mesh_within, text_same}
use Rattle.model_frames.proofs.DescentLaws.{mesh_points_are_bounded}
use Rattle.model_frames.proofs.mesh.solid_grid.Goals as goal

pub returns-in_err-list-clause-at_most : goal.returns-in_err-list-clause-at_most
returns-in_err-list-clause-at_most c = within-none c.args.tally.now _

pub returns-clause-text : goal.returns-clause-text
returns-clause-text c = text_same c.cell_grid.result c.args.view.now c.args.model.now c.in_ok-list.list c.in_ok-list.ensures.value c.cell_grid.ensures.grid

pub returns-clause-at_most : goal.returns-clause-at_most
returns-clause-at_most c =
    mesh_within c.args.tally.now c.cell_grid.new.tally c.args.view.now c.args.model.now c.in_ok-list.list c.in_ok-list.ensures.live c.cell_grid.ensures.at_most

pub returns-clause-plain : goal.returns-clause-plain
returns-clause-plain c =
    mesh_plain c.args.tally.now c.cell_grid.new.tally c.args.view.now c.args.model.now c.in_ok-list.list c.in_ok-list.ensures.live c.window_holds.ensures
    (subst IsTape c.list.view_is c.list.invariant) mesh_points_are_bounded
    (mesh_within c.args.tally.now c.cell_grid.new.tally c.args.view.now c.args.model.now c.in_ok-list.list c.in_ok-list.ensures.live c.cell_grid.ensures.at_most)

pub returns-clause-counted : goal.returns-clause-counted
returns-clause-counted c =
    mesh_counted_then c.cell_grid.result c.args.tally.now c.cell_grid.new.tally c.args.view.now c.args.model.now c.in_ok-list.list c.in_ok-list.ensures.live c.cell_grid.ensures.at_most
    c.cell_grid.ensures.at_least c.cell_grid.ensures.traced

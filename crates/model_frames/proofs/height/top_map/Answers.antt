use Rattle.std.proofs.Common.{subst}
use Rattle.live_clauses.specs.Steps.{IsTape}
use Rattle.model_frames.proofs.Depths.{heights_counted, heights_plain, heights_within, map-same}
use Rattle.model_frames.proofs.WorkLaws.{within-none}
use Rattle.model_frames.proofs.DescentLaws.{height_points_are_bounded}
use Rattle.model_frames.proofs.height.top_map.Goals as goal

pub returns-in_err-list-clause-at_most : goal.returns-in_err-list-clause-at_most
returns-in_err-list-clause-at_most c = within-none c.args.tally.now _

pub returns-clause-map : goal.returns-clause-map
returns-clause-map c =
    map-same c.heights.result c.args.view.now c.args.model.now c.in_ok-list.list c.in_ok-list.ensures.value c.heights.ensures.map

pub returns-clause-counted : goal.returns-clause-counted
returns-clause-counted c =
    heights_counted c.heights.result c.args.tally.now c.heights.new.tally c.args.view.now c.args.model.now c.in_ok-list.list c.in_ok-list.ensures.live c.heights.ensures.at_most c.heights.ensures.points
    c.heights.ensures.hulls

pub returns-clause-at_most : goal.returns-clause-at_most
returns-clause-at_most c =
    heights_within c.args.tally.now c.heights.new.tally c.args.view.now c.args.model.now c.in_ok-list.list c.in_ok-list.ensures.live c.heights.ensures.at_most

pub returns-clause-plain : goal.returns-clause-plain
returns-clause-plain c =
    let view = c.args.view.now in
    let clauses = c.args.model.now in
    heights_plain c.args.tally.now c.heights.new.tally view clauses c.in_ok-list.list c.in_ok-list.ensures.live c.window_holds.ensures
    (subst IsTape c.list.view_is c.list.invariant) height_points_are_bounded
    (heights_within c.args.tally.now c.heights.new.tally view clauses c.in_ok-list.list c.in_ok-list.ensures.live c.heights.ensures.at_most)

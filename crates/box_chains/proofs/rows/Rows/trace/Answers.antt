use Rattle.std.proofs.Common.{◌≡◌, ◌++◌, ◌∙◌, length, map, ap, subst}
use Rattle.std.specs.List.{range_with_len}
use Rattle.live_clauses.specs.Blocks.{list_at}
use Rattle.box_chains.specs.Outcomes.{AreSeen, asked_decisions, asked_outcomes, decision_in, lane_outcome}
use Rattle.box_chains.proofs.Lanes.{hulls-decide, lanes-told}
use Rattle.box_chains.proofs.Traced.{on_ok-then}
use Rattle.box_chains.proofs.rows.Rows.trace.Goals as goal

pub returns-clause-outcomes : goal.returns-clause-outcomes
returns-clause-outcomes g c =
    let halves = c.trace_halves-halves in
    let list = list_at c.args.lists.now c.args.at in
    let rows = halves.new.choices in
    let are = subst (λ x. map (lane_outcome x c.args.asked.now halves.result.hulls rows) (range_with_len 0 g.row.L) ≡ asked_outcomes c.args.places.now x c.args.asked.now)
    c.list.ensures.list
    (lanes-told c.args.places.now c.list.result c.args.asked.now c.regions_of-regions.result halves.result.hulls rows g.row.L
    c.regions_of-regions.ensures c.requires.boxes halves.ensures.hulls halves.ensures.choices) in
    on_ok-then c.push_outcomes.result _ _
    (λ added. λ told seen. subst (λ xs. AreSeen (length list) c.push_outcomes.new.lists c.push_outcomes.new.outcomes.items (told ++ xs)) are (added told seen))
    c.push_outcomes.ensures.outcomes

pub returns-clause-decisions : goal.returns-clause-decisions
returns-clause-decisions g c =
    let halves = c.trace_halves-halves in
    let list = list_at c.args.lists.now c.args.at in
    let are = subst (λ x. map (decision_in halves.result.hulls) (range_with_len 0 g.row.L) ≡ asked_decisions c.args.places.now x c.args.asked.now)
    c.list.ensures.list
    (hulls-decide c.args.places.now c.list.result c.args.asked.now c.regions_of-regions.result halves.result.hulls g.row.L
    c.regions_of-regions.ensures c.requires.boxes halves.ensures.hulls) in
    on_ok-then c.push_outcomes.result _ _ (λ added. added ∙ ap (λ ds. c.args.decisions.now.items ++ ds) are) c.push_outcomes.ensures.decisions

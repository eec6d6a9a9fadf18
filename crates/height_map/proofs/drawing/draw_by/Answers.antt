use Rattle.std.proofs.Common.{List, ◌∙◌, ap, subst}
use Rattle.box_chains.specs.Desks.{Tracing, list_of}
use Rattle.box_chains.specs.Sums.{sum_in}
use Rattle.fixed_ops.specs.Counts.{RisesBy, points_of}
use Rattle.live_clauses.specs.declared.step.Step.{Step}
use Rattle.height_map.specs.Columns.{leaf_cost}
use Rattle.height_map.proofs.drawing.draw_by.Goals as goal

pub returns-clause-counted : goal.returns-clause-counted
returns-clause-counted c =
    let b = c.args.b in
    let tops = c.args.tops.now in
    subst (λ v. RisesBy c.args.tally.now c.draw_leaf.new.tally (points_of (sum_in b (leaf_cost v (list_of c.args.desk.now c.args.at) b tops)))) (ap (λ (d : Tracing). d.view) c.desk.view_is)
    (subst (λ (l : List Step). RisesBy c.args.tally.now c.draw_leaf.new.tally (points_of (sum_in b (leaf_cost c.desk.inside.places.view l b tops))))
    (c.list-list.ensures.list ∙ ap (λ (d : Tracing). list_of d c.args.at) c.desk.view_is) c.draw_leaf.ensures.counted)

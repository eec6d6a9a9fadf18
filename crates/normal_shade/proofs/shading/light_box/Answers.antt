use Rattle.std.proofs.Common.{List, ap, subst, ◌∙◌}
use Rattle.box_chains.specs.Desks.{Tracing, list_of}
use Rattle.fixed_ops.specs.Counts.{RisesBy, points_of}
use Rattle.height_map.specs.Bound.{layered}
use Rattle.live_clauses.specs.declared.step.Step.{Step}
use Rattle.normal_shade.specs.Lit.{lit_in}
use Rattle.normal_shade.specs.Marks.{is_marked}
use Rattle.normal_shade.proofs.shading.light_box.Goals as goal

pub returns-clause-counted : goal.returns-clause-counted
returns-clause-counted c =
    let view = ap (λ (d : Tracing). d.view) c.desk.view_is in
    let same = c.list-list.ensures.list ∙ ap (λ (d : Tracing). list_of d c.args.at) c.desk.view_is in
    let width = c.w-w.ensures ∙ ap (λ v. v.w) view in
    subst (λ n. RisesBy c.args.tally.now c.light_tops.new.tally (points_of (lit_in (is_marked n c.args.tops.now) (layered c.args.desk.now.view) c.args.b (list_of c.args.desk.now c.args.at)))) width
    (subst (λ v. RisesBy c.args.tally.now c.light_tops.new.tally (points_of (lit_in (is_marked c.w-w.result c.args.tops.now) (layered v) c.args.b (list_of c.args.desk.now c.args.at)))) view
    (subst (λ (l : List Step). RisesBy c.args.tally.now c.light_tops.new.tally (points_of (lit_in (is_marked c.w-w.result c.args.tops.now) (layered c.desk.inside.places.view) c.args.b l))) same
    c.light_tops.ensures.counted))

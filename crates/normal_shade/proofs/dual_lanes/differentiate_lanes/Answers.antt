-- The last row has the list's dual numbers, and the derivatives are counted.
use Rattle.std.proofs.Common.{◌∙◌, ◌-◌, [], ap, arith, subst}
use Rattle.std.proofs.lemmas.List.{get_or_read}
use Rattle.fixed_ops.specs.Counts.{RisesBy, points_of}
use Rattle.normal_shade.specs.Duals.{dual_at, dual_in}
use Rattle.normal_shade.proofs.Reached.{last-dual}
use Rattle.normal_shade.proofs.dual_lanes.differentiate_lanes.Goals as goal

pub returns-clause-duals : goal.returns-clause-duals
returns-clause-duals g c = λ lane p below values marks.
    let list = c.args.list.now in
    let duals = c.differentiate-count.new.duals in
    ap (dual_in lane) (get_or_read duals (c.len.result - 1) c.index-duals-len.result (omega (arith, c.len.ensures.len, c.len.ensures.tape.some, c.requires.room, c.differentiate-count.auto.duals)) c.index-duals-len.is [])
    ∙ ap (λ n. dual_at lane duals (n - 1)) c.len.ensures.len
    ∙ last-dual p list c.len.ensures.tape (dual_at lane duals) (c.differentiate-count.ensures.duals lane p below values marks)

pub returns-clause-counted : goal.returns-clause-counted
returns-clause-counted g c = λ at values marks.
    subst (λ n. RisesBy c.args.tally.now c.count_points.new.tally (points_of n)) (c.differentiate-count.ensures.cost at values marks) c.count_points.ensures

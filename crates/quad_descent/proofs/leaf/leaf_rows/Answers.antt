use Rattle.std.proofs.Common.{◌≡◌, ◌-◌, ◌*◌, ℕ, ap, arith, length, subst, ◌∙◌}
use Rattle.fixed_ops.specs.Counts.{RisesBy, points_of}
use Rattle.fixed_ops.proofs.CountLaws.{tallies_add_up_is}
use Rattle.quad_descent.specs.Nodes.{bits_of}
use Rattle.quad_descent.specs.Scans.{cut, insides_upto, sample_count}
use Rattle.quad_descent.proofs.Scans.{more-counted, rows-cut}
use Rattle.quad_descent.proofs.leaf.leaf_rows.Goals as goal

pub returns-clause-rows : goal.returns-clause-rows
returns-clause-rows c =
    let places = c.args.places.now in
    let list = c.args.list.now in
    let last = c.tell_groups-4 in
    let bits = last.new.scan.bits in
    let all : last.new.scan.told ≡ sample_count c.args.b = omega (arith, last.ensures.whole, last.ensures.left) in
    c.cut_rows.ensures ∙ ap (λ b. cut bits (b.x1 - b.x0) (b.y1 - b.y0)) c.b.view_is
    ∙ rows-cut places.view places.lattice list c.args.b bits (last.ensures.told.bits ∙ ap (λ n. bits_of (insides_upto places.view places.lattice list c.args.b n)) all)

pub returns-clause-counted : goal.returns-clause-counted
returns-clause-counted c =
    let b = c.args.b in
    let len = length c.args.list.now in
    let before = c.args.tally.now in
    let tallies = tallies_add_up_is in
    let one = c.tell_groups in
    let two = c.tell_groups-2 in
    let three = c.tell_groups-3 in
    let four = c.tell_groups-4 in
    let start = c.new-scan.result.told in
    let first : RisesBy before two.new.tally (points_of ((two.new.scan.told - start) * len)) =
    more-counted tallies before one.new.tally two.new.tally start one.new.scan.told (two.new.scan.told - one.new.scan.told) two.new.scan.told len
    one.ensures.onward (omega (arith, two.ensures.onward)) one.ensures.counted two.ensures.counted in
    let second : RisesBy before three.new.tally (points_of ((three.new.scan.told - start) * len)) =
    more-counted tallies before two.new.tally three.new.tally start two.new.scan.told (three.new.scan.told - two.new.scan.told) three.new.scan.told len
    (omega (arith, one.ensures.onward, two.ensures.onward)) (omega (arith, three.ensures.onward)) first three.ensures.counted in
    let third : RisesBy before four.new.tally (points_of ((four.new.scan.told - start) * len)) =
    more-counted tallies before three.new.tally four.new.tally start three.new.scan.told (four.new.scan.told - three.new.scan.told) four.new.scan.told len
    (omega (arith, one.ensures.onward, two.ensures.onward, three.ensures.onward)) (omega (arith, four.ensures.onward)) second four.ensures.counted in
    let all : four.new.scan.told - start ≡ (b.x1 - b.x0) * (b.y1 - b.y0) = omega (arith, c.new-scan.ensures.told, four.ensures.whole, four.ensures.left) in
    subst (λ n. RisesBy before four.new.tally (points_of n)) (ap (λ n. n * len) all ∙ turned (b.x1 - b.x0) (b.y1 - b.y0) len) third
  where
    turned : (w h len : ℕ) → w * h * len ≡ h * (w * len)
    turned w h len = grind arith

-- Values, marks and derivatives one after the other are the dual numbers in the lanes.
use Rattle.std.proofs.Common.{drop, take, ◌++◌, List, ◌≡◌, ◌∙◌, ◌<◌, ℕ, ap, arith, length, subst, sym}
use Rattle.std.proofs.Math.Seq.{take-append_seam}
use Rattle.fixed_ops.specs.Counts.{RisesBy, points_of}
use Rattle.fixed_ops.specs.Points.{Point}
use Rattle.fixed_ops.proofs.CountLaws.{tallies_add_up_is}
use Rattle.choice_trace.specs.Lanes.{number_at, point_in}
use Rattle.normal_shade.specs.DualWork.{derivatives_below, dual_points}
use Rattle.normal_shade.specs.Duals.{HasValues, MarksReached}
use Rattle.normal_shade.proofs.Reached.{sum-lanes}
use Rattle.normal_shade.proofs.dual_lanes.gradient_lanes.Goals as goal

-- what is read of a buffer again is what was written
again : {X : Type 0} (len : ℕ) (new old : List X) → len ≡ length new → take len (new ++ drop (length new) old) ≡ new
again len new old same = ap (λ n. take n (new ++ drop (length new) old)) same ∙ take-append_seam new (drop (length new) old)

pub returns-clause-duals : goal.returns-clause-duals
returns-clause-duals g c = λ lane h.
    let p : Point = point_in lane c.args.inputs.now in
    let regs = c.evaluate_lanes.new.regs in
    let len : c.scratch.inside.values.len ≡ length regs = omega (arith, c.evaluate_lanes.auto.regs, c.deref_mut.ensures.len) in
    let marked : c.scratch.inside.marks.len ≡ length c.mark_lanes_reached.new.marks = omega (arith, c.mark_lanes_reached.auto.marks, c.deref_mut-2.ensures.len) in
    let once : c.deref.result.now ≡ regs = c.deref.ensures.value ∙ again c.scratch.inside.values.len regs c.scratch.inside.values.items len in
    let twice : c.deref-2.result.now ≡ regs = c.deref-2.ensures.value ∙ again c.scratch.inside.values.len regs c.scratch.inside.values.items len in
    let marks : c.deref-3.result.now ≡ c.mark_lanes_reached.new.marks = c.deref-3.ensures.value ∙ again c.scratch.inside.marks.len c.mark_lanes_reached.new.marks c.scratch.inside.marks.items marked in
    let values : HasValues p c.args.list.now (number_at lane regs) = λ place k. c.evaluate_lanes.ensures.rows lane place h k in
    let reached = c.mark_lanes_reached.ensures lane p (omega (arith, h, c.requires.lanes)) (c.first_lanes.ensures lane h) (subst (λ r. HasValues p c.args.list.now (number_at lane r)) (sym once) values) in
    c.differentiate_lanes.ensures.duals lane p h (subst (λ r. HasValues p c.args.list.now (number_at lane r)) (sym twice) values)
    (subst (λ m. MarksReached p c.args.list.now lane m) (sym marks) reached)

pub returns-clause-counted : goal.returns-clause-counted
unfolding dual_points
returns-clause-counted g c =
    let list = c.args.list.now in
    let at : ℕ → Point = λ lane. point_in lane c.args.inputs.now in
    let regs = c.evaluate_lanes.new.regs in
    let len : c.scratch.inside.values.len ≡ length regs = omega (arith, c.evaluate_lanes.auto.regs, c.deref_mut.ensures.len) in
    let marked : c.scratch.inside.marks.len ≡ length c.mark_lanes_reached.new.marks = omega (arith, c.mark_lanes_reached.auto.marks, c.deref_mut-2.ensures.len) in
    let once : c.deref.result.now ≡ regs = c.deref.ensures.value ∙ again c.scratch.inside.values.len regs c.scratch.inside.values.items len in
    let twice : c.deref-2.result.now ≡ regs = c.deref-2.ensures.value ∙ again c.scratch.inside.values.len regs c.scratch.inside.values.items len in
    let kept : c.deref-3.result.now ≡ c.mark_lanes_reached.new.marks = c.deref-3.ensures.value ∙ again c.scratch.inside.marks.len c.mark_lanes_reached.new.marks c.scratch.inside.marks.items marked in
    let values : (lane : ℕ) → lane < g.row.L → HasValues (at lane) list (number_at lane regs) = λ lane h place k. c.evaluate_lanes.ensures.rows lane place h k in
    let reached : (lane : ℕ) → lane < g.row.L → MarksReached (at lane) list lane c.mark_lanes_reached.new.marks = λ lane h.
    c.mark_lanes_reached.ensures lane (at lane) (omega (arith, h, c.requires.lanes)) (c.first_lanes.ensures lane h) (subst (λ r. HasValues (at lane) list (number_at lane r)) (sym once) (values lane h)) in
    subst (λ n. RisesBy c.args.tally.now c.differentiate_lanes.new.tally (points_of n))
    (sum-lanes (λ lane. derivatives_below (at lane) list (length list)) (length list) g.row.L)
    (tallies_add_up_is.sum c.args.tally.now c.evaluate_lanes.new.tally c.differentiate_lanes.new.tally _ _ c.evaluate_lanes.ensures.counted
    (c.differentiate_lanes.ensures.counted at (λ lane h. subst (λ r. HasValues (at lane) list (number_at lane r)) (sym twice) (values lane h))
    (λ lane h. subst (λ m. MarksReached (at lane) list lane m) (sym kept) (reached lane h))))

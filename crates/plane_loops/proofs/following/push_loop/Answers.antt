-- One more vertex of a loop, and its end.
use Rattle.std.proofs.Common.{◌<◌, [], ◌∷◌, arith, length, ◌∙◌, ap}
use Rattle.std.proofs.lemmas.List.{length-append, length-set}
use Rattle.plane_loops.proofs.WalkLaws.{count_on, marks_off, marks_on, order_off, order_on}
use Rattle.plane_loops.proofs.following.push_loop.Goals as goal

pub loop-marks-preserved : goal.loop-marks-preserved
loop-marks-preserved c =
    let marks = c.loop-marks.marks in
    let v = c.loop-marks.at in
    let kept = c.loop-marks.invariant in
    let within : v < length marks = omega (arith, kept.within, kept.size) in
    record {
      within = c.requires.within v 0 kept.within;
      size = length-set marks v _ ∙ kept.size;
      order = order_on c.args.next.now marks v _ c.loop-marks.order.items _ _ within c.loop-marks-test.true c.in_ok-push.ensures.items kept.order;
      marks = marks_on c.args.next.now marks v _ _ within c.loop-marks-test.true kept.marks;
      count =
          let long = ap length c.in_ok-push.ensures.items ∙ length-append c.loop-marks.order.items (v ∷ []) in
          let e = count_on marks v _ (length c.loop-marks.order.items) _ within c.loop-marks-test.true kept.count in
          omega (arith, long, e);
    }

pub returns-clause-order : goal.returns-clause-order
returns-clause-order c =
    order_off c.args.next.now c.loop-marks.marks c.loop-marks.at _ _ _ (omega (arith, c.loop-marks.invariant.within, c.loop-marks.invariant.size)) c.loop-marks-test.false c.loop-marks.invariant.order

pub returns-clause-marks : goal.returns-clause-marks
returns-clause-marks c =
    marks_off c.args.next.now c.loop-marks.marks c.loop-marks.at _ _ (omega (arith, c.loop-marks.invariant.within, c.loop-marks.invariant.size)) c.loop-marks-test.false c.loop-marks.invariant.marks

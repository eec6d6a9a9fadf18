use Rattle.std.proofs.Common.{length, take, ap, arith, subst, ◌∙◌}
use Rattle.std.proofs.lemmas.List.{length-drop, take_rest}
use Rattle.oct_descent.specs.Gaps.{Fills}
use Rattle.oct_descent.specs.GridValues.{list_grid_value}
use Rattle.oct_descent.proofs.Bricks.{keeps-then}
use Rattle.oct_descent.proofs.GapLaws.{fills-more, lanes-counted}
use Rattle.fixed_ops.proofs.CountLaws.{tallies_add_up_is}
use Rattle.oct_descent.proofs.gaps.fill_gaps.Goals as goal

pub loop-at-preserved : goal.loop-at-preserved
loop-at-preserved c =
    let gaps = c.args.gaps.now in
    let at = c.loop-at.at in
    let g = list_grid_value c.args.places.now.view c.args.list.now in
    let rest = take_rest gaps at in
    record {
      within = omega (arith, c.loop-at.invariant.within, c.fill_some-at.ensures.few, ap length rest, length-drop at gaps);
      room = c.fill_some-at.auto.rows ∙ c.loop-at.invariant.room;
      fills = fills-more g at c.fill_some-at.result gaps c.args.values.now c.loop-at.values c.fill_some-at.new.values c.loop-at.invariant.fills
          (subst (λ l. Fills g (take c.fill_some-at.result l) c.loop-at.values c.fill_some-at.new.values) rest c.fill_some-at.ensures.fills);
      keeps = keeps-then c.args.values.now c.loop-at.values c.fill_some-at.new.values c.loop-at.invariant.keeps c.fill_some-at.ensures.keeps;
      counted = lanes-counted tallies_add_up_is c.args.tally.now c.loop-at.tally c.fill_some-at.new.tally at c.fill_some-at.result (length c.args.list.now) c.loop-at.invariant.counted c.fill_some-at.ensures.counted;
    }

use Rattle.std.proofs.Common.{length, take, ap, arith, subst, ◌∙◌}
use Rattle.std.proofs.lemmas.List.{length-drop}
use Rattle.fixed_ops.proofs.CountLaws.{tallies_add_up_is}
use Rattle.height_map.specs.Columns.{Changes}
use Rattle.height_map.specs.Layers.{layer_top, stand_at}
use Rattle.height_map.proofs.Layers.{lanes-changed, lanes-counted, rest-is}
use Rattle.height_map.proofs.layer.draw_layer.Goals as goal

pub loop-at-preserved : goal.loop-at-preserved
loop-at-preserved c =
    let columns = c.args.columns.now in
    let at = c.loop-at.at in
    let view = c.args.places.now.view in
    let list = c.args.list.now in
    let rest = rest-is columns at in
    record {
      within = omega (arith, c.loop-at.invariant.within, c.draw_some-at.ensures.few, ap length rest, length-drop at columns);
      room = c.draw_some-at.auto.values ∙ c.loop-at.invariant.room;
      tops = lanes-changed view list c.args.k at c.draw_some-at.result columns c.args.tops.now c.loop-at.tops c.draw_some-at.new.tops c.loop-at.invariant.tops
          (subst (λ l. Changes (stand_at (take c.draw_some-at.result l)) (layer_top view list c.args.k) c.loop-at.tops c.draw_some-at.new.tops) rest c.draw_some-at.ensures.tops);
      counted = lanes-counted tallies_add_up_is c.args.tally.now c.loop-at.tally c.draw_some-at.new.tally at c.draw_some-at.result (length list) c.loop-at.invariant.counted c.draw_some-at.ensures.counted;
    }

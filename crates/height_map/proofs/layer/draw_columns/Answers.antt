use Rattle.std.proofs.Common.{◌≡◌, ◌+◌, ◌<◌, length, pos, ap, arith, refl, rules, subst, sym, ◌∙◌}
use Rattle.std.specs.Prelude.{◌==◌}
use Rattle.std.proofs.lemmas.List.{get_or_read}
use Rattle.std.proofs.lemmas.List.Elements.{All-get_or}
use Rattle.fixed_ops.specs.Raw.{is_inside}
use Rattle.live_clauses.specs.Steps.{tape_value}
use Rattle.height_map.specs.Columns.{Changes}
use Rattle.height_map.specs.Layers.{IsColumn, layer_top, nth, point_at}
use Rattle.height_map.proofs.Layers.{column-inside, column-outside, lane-changed, sample-inside}
use Rattle.height_map.proofs.layer.draw_columns.Goals.{then-is_inside, else-is_inside}
use Rattle.height_map.proofs.layer.draw_columns.Goals as goal

pub loop-lane-preserved : goal.loop-lane-preserved
loop-lane-preserved g c =
    let view = c.args.places.now.view in
    let list = c.args.list.now in
    let k = c.args.k in
    let columns = c.args.columns.now in
    let lane = c.loop-lane.lane in
    let column = nth columns lane in
    let within : lane < length columns = omega (arith, c.loop-lane-test.true, c.requires.many) in
    let is : IsColumn view (length c.args.tops.now) column =
    All-get_or (IsColumn view (length c.args.tops.now)) columns lane (record { i = 0; j = 0; place = 0 }) within c.requires.columns in
    let value : c.index-row-lane.result ≡ tape_value (point_at view k column) list =
    get_or_read c.evaluate_lanes-row.result lane c.index-row-lane.result (search rules) c.index-row-lane.is (pos 0)
    ∙ c.evaluate_lanes-row.ensures.values lane c.loop-lane-test.true
    ∙ ap (λ p. tape_value p list) (c.gather-inputs.ensures lane c.loop-lane-test.true) in
    let tested = sample-inside view list k (length c.args.tops.now) column c.index-row-lane.result c.is_inside.result is value (c.is_inside.ensures.value ∙ ap is_inside (sym c.index-row-lane.is)) in
    lane-changed view list k lane column.place columns c.args.tops.now c.loop-lane.tops c.if-is_inside.tops within refl c.loop-lane.invariant
    (elim c.if-is_inside.branch [
      | then-is_inside w ↦ subst (λ l. Changes (λ p. p == column.place) (layer_top view list k) c.loop-lane.tops l) (sym w.tops-is)
          (column-inside view list k column.place (k + 1) c.loop-lane.tops (omega (arith, is.there, c.loop-lane.auto.tops)) (tested ∙ w.if-is_inside.true) refl)
      | else-is_inside w ↦ subst (λ l. Changes (λ p. p == column.place) (layer_top view list k) c.loop-lane.tops l) (sym w.tops-is)
          (column-outside view list k column.place c.loop-lane.tops (tested ∙ w.if-is_inside.false))
    ])

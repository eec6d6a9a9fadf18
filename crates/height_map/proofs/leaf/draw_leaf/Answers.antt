use Rattle.std.proofs.Common.{◌≡◌, ◌+◌, ◌-◌, ◌<◌, ◌≤◌, ℕ, length, ap, arith, refl, subst, sym, ◌∙◌}
use Rattle.std.specs.List.{All}
use Rattle.std.specs.Prelude.{◌==◌, get_or}
use Rattle.std.proofs.lemmas.List.Elements.{All-filter}
use Rattle.box_chains.specs.Sums.{sum_in}
use Rattle.fixed_ops.specs.Counts.{RisesBy, points_of}
use Rattle.view_places.specs.Boxes.{IsBox}
use Rattle.box_chains.proofs.Theorems.{laws}
use Rattle.height_map.specs.Columns.{Changes, covers, leaf_cost, leaf_top}
use Rattle.height_map.specs.Layers.{IsColumn, columns_of, open_among, stand_at}
use Rattle.height_map.specs.declared.column.Column.{Column}
use Rattle.height_map.proofs.Leaves.{columns-there, deeper, deeper-counted, layer-changed, none-counted, none-drawn, open-still}
use Rattle.height_map.proofs.leaf.draw_leaf.Goals as goal

pub loop-k-init : goal.loop-k-init
loop-k-init c =
    let b = c.args.b in
    let z0 = ap (λ b. b.z0) c.b.view_is in
    let z1 = ap (λ b. b.z1) c.b.view_is in
    let view = c.args.places.now.view in
    let leaf = c.requires.leaf in
    record {
      above = omega (arith, z0, z1, c.b.invariant.z);
      room = refl {a = length c.args.values.now};
      there = subst (All (IsColumn view (length c.args.tops.now))) (sym c.columns_of-columns.ensures)
          (columns-there view b c.args.w (length c.args.tops.now) leaf.width (subst IsBox c.b.view_is c.b.invariant) leaf.within leaf.among);
      columns = ap (open_among c.args.tops.now) c.columns_of-columns.ensures;
      tops = none-drawn view c.args.list.now b c.args.w c.b.inside.z1 c.args.tops.now z1;
      counted = none-counted laws b c.b.inside.z1 (leaf_cost view c.args.list.now b c.args.tops.now) c.args.tally.now z1;
    }

pub draw_layer-requires-clause-columns : goal.draw_layer-requires-clause-columns
draw_layer-requires-clause-columns c =
    let view = c.args.places.now.view in
    let P = IsColumn view (length c.args.tops.now) in
    subst (λ n. All (IsColumn view n) c.deref.result.now) (sym c.loop-k.auto.tops)
    (subst (All P) (sym (c.deref.ensures.0 ∙ c.keep_open.ensures))
    (All-filter (λ (column : Column). get_or c.loop-k.tops column.place 0 == 0) P c.loop-k.columns.items c.loop-k.invariant.there))

pub loop-k-preserved : goal.loop-k-preserved
loop-k-preserved c =
    let b = c.args.b in
    let w = c.args.w in
    let view = c.args.places.now.view in
    let list = c.args.list.now in
    let leaf = c.requires.leaf in
    let was = c.loop-k.invariant in
    let k : ℕ = c.loop-k.k - 1 in
    let z0 = ap (λ b. b.z0) c.b.view_is in
    let z1 = ap (λ b. b.z1) c.b.view_is in
    let some : 0 < c.loop-k.k = omega (arith, c.loop-k-test.true) in
    let next : c.loop-k.k ≡ k + 1 = omega (arith, some) in
    let above : b.z0 ≤ c.loop-k.k - 1 = omega (arith, z0, c.loop-k-test.true) in
    let below : c.loop-k.k - 1 < b.z1 = omega (arith, z1, some, c.loop-k.auto.k) in
    let columns = c.deref.result.now in
    let found : columns ≡ open_among c.loop-k.tops c.loop-k.columns.items = c.deref.ensures.0 ∙ c.keep_open.ensures in
    let all : columns ≡ open_among c.loop-k.tops (columns_of w b) = found ∙ was.columns in
    let nearer = subst (λ n. Changes (covers w b) (leaf_top view list (record b { z0 = n })) c.args.tops.now c.loop-k.tops) next was.tops in
    let P = IsColumn view (length c.args.tops.now) in
    record {
      above = above;
      room = c.draw_layer.auto.values ∙ was.room;
      there = subst (All P) (sym c.keep_open.ensures)
          (All-filter (λ (column : Column). get_or c.loop-k.tops column.place 0 == 0) P c.loop-k.columns.items was.there);
      columns = ap (open_among c.draw_layer.new.tops) (sym c.deref.ensures.0)
          ∙ open-still view list k (stand_at columns) columns (columns_of w b) c.loop-k.tops c.draw_layer.new.tops c.draw_layer.ensures.tops all;
      tops = deeper view list b w k c.args.tops.now c.loop-k.tops c.draw_layer.new.tops below nearer
          (layer-changed view list b w k columns c.loop-k.tops c.draw_layer.new.tops (subst IsBox c.b.view_is c.b.invariant) leaf.among.columns all c.draw_layer.ensures.tops);
      counted = deeper-counted laws view list b w k (length c.args.tops.now) columns c.args.tops.now c.loop-k.tops c.args.tally.now c.loop-k.tally c.draw_layer.new.tally leaf.width leaf.among refl above below all nearer
          (subst (λ n. RisesBy c.args.tally.now c.loop-k.tally (points_of (sum_in (record b { z0 = n }) (leaf_cost view list b c.args.tops.now)))) next was.counted)
          c.draw_layer.ensures.counted;
    }

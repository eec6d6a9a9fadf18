use Rattle.std.proofs.Common.{◌≡◌, ◌≤◌, length}
use Rattle.std.specs.List.{All}
use Rattle.box_chains.specs.Sums.{sum_in}
use Rattle.fixed_ops.specs.Counts.{RisesBy, points_of}
use Rattle.height_map.specs.Columns.{Changes, covers, leaf_cost, leaf_top}
use Rattle.height_map.specs.Layers.{IsColumn, columns_of, open_among}
use Rattle.height_map.proofs.leaf.draw_leaf.Given as goal

abbrev pub invariant-loop-k : goal.invariant-loop-k
invariant-loop-k l = record {
  above : l.fn.b.z0 ≤ l.k;
  room : length l.values ≡ length l.fn.values;
  there : All (IsColumn l.fn.places.view (length l.fn.tops)) l.columns.items;
  columns : open_among l.tops l.columns.items ≡ open_among l.tops (columns_of l.fn.w l.fn.b);
  tops : Changes (covers l.fn.w l.fn.b) (leaf_top l.fn.places.view l.fn.list (record l.fn.b { z0 = l.k })) l.fn.tops l.tops;
  counted : RisesBy l.fn.tally l.tally (points_of (sum_in (record l.fn.b { z0 = l.k }) (leaf_cost l.fn.places.view l.fn.list l.fn.b l.fn.tops)));
}

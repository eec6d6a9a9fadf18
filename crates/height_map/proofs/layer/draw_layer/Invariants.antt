use Rattle.std.proofs.Common.{◌≡◌, ◌-◌, ◌*◌, ◌≤◌, length, take}
use Rattle.fixed_ops.specs.Counts.{RisesBy, points_of}
use Rattle.height_map.specs.Columns.{Changes}
use Rattle.height_map.specs.Layers.{layer_top, stand_at}
use Rattle.height_map.proofs.layer.draw_layer.Given as goal

abbrev pub invariant-loop-at : goal.invariant-loop-at
invariant-loop-at l = record {
  within : l.at ≤ length l.columns;
  room : length l.values ≡ length l.fn.values;
  tops : Changes (stand_at (take l.at l.columns)) (layer_top l.places.view l.list l.k) l.fn.tops l.tops;
  counted : RisesBy l.fn.tally l.tally (points_of (l.at * length l.list));
}

abbrev pub decreases-loop-at : goal.decreases-loop-at
decreases-loop-at l = length l.columns - l.at

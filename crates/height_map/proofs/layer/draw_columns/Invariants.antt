use Rattle.std.proofs.Common.{take}
use Rattle.height_map.specs.Columns.{Changes}
use Rattle.height_map.specs.Layers.{layer_top, stand_at}
use Rattle.height_map.proofs.layer.draw_columns.Given as goal

abbrev pub invariant-loop-lane : goal.invariant-loop-lane
invariant-loop-lane g l = Changes (stand_at (take l.lane l.columns)) (layer_top l.places.view l.list l.k) l.fn.tops l.tops

use Rattle.std.proofs.Common.{take}
use Rattle.oct_descent.specs.Gaps.{Fills}
use Rattle.oct_descent.specs.GridValues.{list_grid_value}
use Rattle.oct_descent.specs.Tables.{KeepsPlaces}
use Rattle.oct_descent.proofs.gaps.fill_lanes.Given as goal

abbrev pub invariant-loop-lane : goal.invariant-loop-lane
invariant-loop-lane g l = record {
  fills : Fills (list_grid_value l.places.view l.list) (take l.lane l.gaps) l.fn.values l.values;
  keeps : KeepsPlaces l.fn.values l.values;
}

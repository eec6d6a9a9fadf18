use Rattle.std.proofs.Common.{◌+◌}
use Rattle.oct_descent.specs.Tables.{KeepsPlaces}
use Rattle.oct_descent.specs.Taking.{IsInRow, TakesAll}
use Rattle.oct_descent.proofs.grid_values.GridValues.take_places.Given as goal

abbrev pub invariant-loop-i : goal.invariant-loop-i
invariant-loop-i l = record {
  keeps : KeepsPlaces l.fn.self l.self;
  takes : TakesAll (IsInRow l.fn.first (l.fn.first + l.i) l.fn.y l.fn.z) l.other l.fn.self l.self;
}

use Rattle.oct_descent.specs.Taking.{TakesAll}
use Rattle.oct_descent.proofs.Takes.{IsInRows}
use Rattle.oct_descent.proofs.grid_values.GridValues.take_layer.Given as goal

abbrev pub invariant-loop-y : goal.invariant-loop-y
invariant-loop-y l = TakesAll (IsInRows l.fn.b l.y l.fn.z) l.other l.fn.self l.self

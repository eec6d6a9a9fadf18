use Rattle.oct_descent.specs.Taking.{TakesAll}
use Rattle.oct_descent.proofs.Takes.{IsInLayers}
use Rattle.oct_descent.proofs.grid_values.GridValues.take_over.Given as goal

abbrev pub invariant-loop-z : goal.invariant-loop-z
invariant-loop-z l = TakesAll (IsInLayers l.fn.b l.z) l.other l.fn.self l.self

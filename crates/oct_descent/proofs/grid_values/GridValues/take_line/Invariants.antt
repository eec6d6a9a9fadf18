use Rattle.oct_descent.specs.Taking.{TakesAll}
use Rattle.oct_descent.proofs.Takes.{IsInBricks}
use Rattle.oct_descent.proofs.grid_values.GridValues.take_line.Given as goal

abbrev pub invariant-loop-eighth : goal.invariant-loop-eighth
invariant-loop-eighth l = TakesAll (IsInBricks l.fn.b l.eighth l.fn.y l.fn.z) l.other l.fn.self l.self

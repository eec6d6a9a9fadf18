-- What is traced at least while boxes of a plane grid are looked into: those of more than one cell.
use Rattle.std.specs.Prelude.{ℕ, ◌-◌}
use Rattle.box_chains.specs.Chains.{Visit}
use Rattle.oct_descent.specs.Bound.{long_spans_in}
use Rattle.oct_descent.specs.Desks.{own_spans}
use Rattle.oct_descent.specs.Ways.{CellDescent}

-- the steps that are traced over those below a box, behind its own trace
abbrev pub long_spans_below : CellDescent → Visit → ℕ
long_spans_below d v = long_spans_in d v - own_spans v

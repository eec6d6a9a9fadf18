-- What looking into a box needs, and the work that it takes.
use Rattle.std.specs.Prelude.{ℕ, ◌-◌, List, length, if◌then◌else◌}
use Rattle.box_chains.specs.Chains.{Visit, is_long, sum_over}
use Rattle.live_clauses.specs.declared.step.Step.{Step}
use Rattle.view_places.specs.Boxes.{Indices}
use Rattle.oct_descent.specs.Bound.{cell_spans_in}
use Rattle.oct_descent.specs.Ways.{CellDescent}

-- the steps that are traced over some halves of a box, which receive a list
abbrev pub halves_spans : CellDescent → List Step → List Indices → ℕ
halves_spans d list halves = sum_over (cell_spans_in d) list halves

-- the steps that are traced over a box before it is looked into: those of its own trace, which a
-- cell does not have
abbrev pub own_spans : Visit → ℕ
own_spans v = if is_long 1 v.box then length v.list else 0

-- the steps that are traced over a box while it is looked into
abbrev pub spans_below : CellDescent → Visit → ℕ
spans_below d v = cell_spans_in d v - own_spans v

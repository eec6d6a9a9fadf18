use Rattle.std.proofs.Common.{◌≡◌, ◌++◌}
use Rattle.oct_descent.specs.Rows.{cells_between}
use Rattle.oct_descent.proofs.grids.CellGrid.push_eight.Given as goal

abbrev pub invariant-loop-x : goal.invariant-loop-x
invariant-loop-x l = l.cells.items ≡ l.fn.cells.items ++ cells_between l.fn.self.view l.fn.self.list l.fn.first l.x l.fn.y l.fn.z

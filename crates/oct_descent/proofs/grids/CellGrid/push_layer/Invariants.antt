use Rattle.std.proofs.Common.{◌≡◌, ◌++◌}
use Rattle.std.specs.List.{flat_map, range_with_len}
use Rattle.oct_descent.specs.Rows.{cells_in_row}
use Rattle.oct_descent.proofs.grids.CellGrid.push_layer.Given as goal

abbrev pub invariant-loop-y : goal.invariant-loop-y
invariant-loop-y l = l.cells.items ≡ l.fn.cells.items ++ flat_map (λ y. cells_in_row l.fn.self.view l.fn.self.list y l.fn.z) (range_with_len 0 l.y)

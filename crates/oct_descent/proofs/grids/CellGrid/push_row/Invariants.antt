use Rattle.std.proofs.Common.{◌≡◌, ◌++◌, ◌*◌}
use Rattle.std.specs.Prelude.{min}
use Rattle.std.specs.List.{flat_map, range_with_len}
use Rattle.kuhn_cells.specs.Triangles.{point}
use Rattle.oct_descent.specs.Rows.{cells_at}
use Rattle.oct_descent.proofs.grids.CellGrid.push_row.Given as goal

abbrev pub invariant-loop-eighth : goal.invariant-loop-eighth
invariant-loop-eighth l =
    l.cells.items ≡ l.fn.cells.items ++ flat_map (λ x. cells_at l.fn.self.view l.fn.self.list (point x l.fn.y l.fn.z)) (range_with_len 0 (min l.fn.self.view.nx (l.eighth * 8)))

use Rattle.std.proofs.Common.{◌≡◌}
use Rattle.std.specs.List.{flat_map, range_with_len}
use Rattle.oct_descent.specs.Rows.{cells_in_layer}
use Rattle.oct_descent.proofs.listing.cell_list.Given as goal

abbrev pub invariant-loop-z : goal.invariant-loop-z
invariant-loop-z l = l.cells.items ≡ flat_map (cells_in_layer l.fn.grid.view l.fn.grid.list) (range_with_len 0 l.z)

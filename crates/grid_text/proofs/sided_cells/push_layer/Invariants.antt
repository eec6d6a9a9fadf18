use Rattle.std.proofs.Common.{◌≡◌, ◌++◌}
use Rattle.std.specs.Prelude.{map}
use Rattle.std.specs.List.{flat_map, range_with_len}
use Rattle.oct_descent.specs.Rows.{cells_in_row}
use Rattle.tetra_mesh.specs.Sides.{sided_of}
use Rattle.grid_text.proofs.sided_cells.push_layer.Given as goal

abbrev pub invariant-loop-y : goal.invariant-loop-y
invariant-loop-y l = l.sided.items ≡ l.fn.sided.items ++ map sided_of (flat_map (λ y. cells_in_row l.grid.view l.grid.list y l.z) (range_with_len 0 l.y))

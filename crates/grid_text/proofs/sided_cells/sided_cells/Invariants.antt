use Rattle.std.proofs.Common.{◌≡◌}
use Rattle.std.specs.Prelude.{map}
use Rattle.std.specs.List.{flat_map, range_with_len}
use Rattle.oct_descent.specs.Rows.{cells_in_layer}
use Rattle.tetra_mesh.specs.Sides.{sided_of}
use Rattle.grid_text.proofs.sided_cells.sided_cells.Given as goal

abbrev pub invariant-loop-z : goal.invariant-loop-z
invariant-loop-z l = l.sided.items ≡ map sided_of (flat_map (cells_in_layer l.grid.view l.grid.list) (range_with_len 0 l.z))

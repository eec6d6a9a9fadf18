use Rattle.std.proofs.Common.{◌≡◌, ◌++◌}
use Rattle.std.specs.Prelude.{map, take}
use Rattle.tetra_mesh.specs.Sides.{sided_of}
use Rattle.grid_text.proofs.sided_cells.push_sides.Given as goal

abbrev pub invariant-loop-cell : goal.invariant-loop-cell
invariant-loop-cell l = l.sided.items ≡ l.fn.sided.items ++ map sided_of (take l.cell-index l.cells)

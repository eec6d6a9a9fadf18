use Rattle.std.proofs.Common.{◌≡◌}
use Rattle.std.specs.Prelude.{map, take}
use Rattle.tetra_mesh.specs.Sides.{sided_of}
use Rattle.tetra_mesh.proofs.building.sided_cells.Given as goal

abbrev pub invariant-loop-cell : goal.invariant-loop-cell
invariant-loop-cell l = l.sided.items ≡ map sided_of (take l.cell-index l.cells)

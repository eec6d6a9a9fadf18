use Rattle.std.proofs.Common.{◌≡◌}
use Rattle.std.specs.Prelude.{flat_map, take}
use Rattle.tetra_mesh.specs.Numbering.{vertices_on}
use Rattle.tetra_mesh.proofs.vertices.vertices_of.Given as goal

abbrev pub invariant-loop-cell : goal.invariant-loop-cell
invariant-loop-cell l = l.vertices.items ≡ flat_map vertices_on (take l.cell-index l.cells)

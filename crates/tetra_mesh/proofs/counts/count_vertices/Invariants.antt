use Rattle.std.proofs.Common.{◌≡◌, ◌*◌, ◌≤◌, List, length}
use Rattle.std.specs.Prelude.{flat_map, map, take}
use Rattle.kuhn_cells.specs.declared.cell_list.CellValues.{CellValues}
use Rattle.tetra_mesh.specs.Numbering.{vertices_on}
use Rattle.tetra_mesh.specs.Sides.{sided_of}
use Rattle.tetra_mesh.proofs.counts.count_vertices.Given as goal

abbrev pub invariant-loop-cell : goal.invariant-loop-cell
invariant-loop-cell l = record {
  exact : (cells : List CellValues) → l.sided ≡ map sided_of cells → l.count ≡ length (flat_map vertices_on (take l.cell-index cells));
  few : l.count ≤ 8 * l.cell-index;
}

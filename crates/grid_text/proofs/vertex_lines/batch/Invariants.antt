use Rattle.std.proofs.Common.{◌≡◌, ◌-◌, ◌≤◌, List, length}
use Rattle.std.specs.Prelude.{flat_map, map, take}
use Rattle.kuhn_cells.specs.declared.cell_list.CellValues.{CellValues}
use Rattle.tetra_mesh.specs.Numbering.{vertices_on}
use Rattle.tetra_mesh.specs.Sides.{sided_of}
use Rattle.grid_text.proofs.vertex_lines.batch.Given as goal

abbrev pub invariant-loop-count : goal.invariant-loop-count
invariant-loop-count l = record {
  within : l.count ≤ length l.sided;
  few : l.vertices ≤ 949;
  exact : (cells : List CellValues) → l.sided ≡ map sided_of cells → l.vertices ≡ length (flat_map vertices_on (take l.count cells));
}

abbrev pub decreases-loop-count : goal.decreases-loop-count
decreases-loop-count l = length l.sided - l.count

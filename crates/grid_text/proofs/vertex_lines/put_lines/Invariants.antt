use Rattle.std.proofs.Common.{◌≡◌, ◌+◌, ◌*◌, ◌≤◌, ◌++◌, List, length}
use Rattle.std.specs.Prelude.{drop, flat_map, take}
use Rattle.kuhn_cells.specs.declared.cell_list.CellValues.{CellValues}
use Rattle.ply_writer.specs.Ply.{vertex_line}
use Rattle.tetra_mesh.specs.Numbering.{vertices_on}
use Rattle.grid_text.specs.Texts.{AreCellsOf}
use Rattle.grid_text.proofs.vertex_lines.put_lines.Given as goal

abbrev pub invariant-loop-i : goal.invariant-loop-i
invariant-loop-i l = record {
  view : l.block.view ≡ l.fn.block.view;
  room : (cells : List CellValues) → AreCellsOf l.grid.view l.grid.list cells l.sided → 69 * length (flat_map vertices_on (take l.i cells)) ≤ l.block.room;
  lines : (cells : List CellValues) → AreCellsOf l.grid.view l.grid.list cells l.sided → l.block.bytes ≡ flat_map (vertex_line l.grid.view) (flat_map vertices_on (drop l.i cells)) ++ l.fn.block.bytes;
  more : (cells : List CellValues) → AreCellsOf l.grid.view l.grid.list cells l.sided → length l.fn.block.bytes + length (flat_map vertices_on (drop l.i cells)) ≤ length l.block.bytes;
}

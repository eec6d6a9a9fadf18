-- The lines of a part of the cells.
use Rattle.std.proofs.Common.{ap, arith, drop, length, take}
use Rattle.std.specs.Prelude.{flat_map}
use Rattle.std.proofs.lemmas.List.{length-drop, take_rest}
use Rattle.tetra_mesh.specs.Numbering.{vertices_on}
use Rattle.ply_writer.specs.Ply.{vertex_line}
use Rattle.grid_text.proofs.CellLaws.{lines_parted, next_sides, same_cells, slice_part}
use Rattle.grid_text.proofs.vertex_lines.put_vertices.Goals as goal

pub put_lines-requires-clause-cells : goal.put_lines-requires-clause-cells
put_lines-requires-clause-cells c =
    (take c.batch-count.result (drop c.args.lined c.requires.cells.0), slice_part c.args.grid.now.view c.args.grid.now.list c.requires.cells.0 c.args.sided.now c.args.lined c.batch-count.result c.requires.cells.1)

pub put_lines-requires-clause-room : goal.put_lines-requires-clause-room
put_lines-requires-clause-room c cells are =
    let own = c.requires.cells.0 in
    let sided = c.args.sided.now in
    let part = slice_part c.args.grid.now.view c.args.grid.now.list own sided c.args.lined c.batch-count.result c.requires.cells.1 in
    let same = same_cells c.args.grid.now.view c.args.grid.now.list cells _ _ are part in
    let few = c.batch-count.ensures.few (drop c.args.lined own) (next_sides own sided c.args.lined c.requires.cells.1.sides) in
    omega (arith, few, ap (λ l. length (flat_map vertices_on l)) same, c.requires.room)

pub returns-clause-lines : goal.returns-clause-lines
returns-clause-lines c cells are =
    let part = slice_part c.args.grid.now.view c.args.grid.now.list cells c.args.sided.now c.args.lined c.batch-count.result are in
    lines_parted (vertex_line c.args.grid.now.view) cells c.args.lined c.batch-count.result c.put_lines.new.block.bytes c.args.block.now.bytes c.requires.none (c.put_lines.ensures.lines _ part)

pub returns-clause-full : goal.returns-clause-full
returns-clause-full c less =
    let own = c.requires.cells.0 in
    let sided = c.args.sided.now in
    let part = slice_part c.args.grid.now.view c.args.grid.now.list own sided c.args.lined c.batch-count.result c.requires.cells.1 in
    let full = c.batch-count.ensures.full (drop c.args.lined own) (next_sides own sided c.args.lined c.requires.cells.1.sides) (omega (arith, less, ap length (take_rest sided c.args.lined), length-drop c.args.lined sided)) in
    let more = c.put_lines.ensures.more _ part in
    omega (arith, full, more)

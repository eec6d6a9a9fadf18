-- One cell after another, from the last to the first.
use Rattle.std.proofs.Common.{◌≡◌, ◌+◌, ◌-◌, ◌≤◌, List, ◌++◌, ap, arith, drop, get_or, length, length-append, refl, sym, take, ◌∙◌}
use Rattle.std.specs.Prelude.{flat_map}
use Rattle.std.proofs.lemmas.List.{drop_all, length-map, take_all}
use Rattle.kuhn_cells.specs.declared.cell_list.CellValues.{CellValues}
use Rattle.tetra_mesh.specs.declared.sided_cell.SidedCell.{SidedCell}
use Rattle.tetra_mesh.specs.Numbering.{vertices_on}
use Rattle.tetra_mesh.specs.Sides.{sided_of}
use Rattle.ply_writer.specs.Ply.{vertex_line}
use Rattle.grid_text.specs.Texts.{AreCellsOf}
use Rattle.grid_text.proofs.CellLaws.{IsAt, at, flat_first, flat_last, found, found_mixed, lies_in, lines_more, placed}
use Rattle.grid_text.proofs.vertex_lines.put_lines.Goals as goal

abbrev none : SidedCell
none = record { x = 0; y = 0; z = 0; signs = 0 }

pub loop-i-init : goal.loop-i-init
loop-i-init c =
    let sided = c.args.sided.now in
    let all : (cells : List CellValues) → AreCellsOf c.args.grid.now.view c.args.grid.now.list cells sided → length cells ≤ length sided = λ cells are. omega (arith, ap length are.sides ∙ length-map cells sided_of) in
    record {
      view = refl;
      room = λ cells are. rw (take_all (length sided) cells (all cells are)) (c.requires.room cells are);
      lines = λ cells are. rw (drop_all (length sided) cells (all cells are)) refl;
      more = λ cells are. rw (drop_all (length sided) cells (all cells are)) (omega arith);
    }

pub cell-cell-requires-clause-x : goal.cell-cell-requires-clause-x
cell-cell-requires-clause-x c =
    let is = at c.args.grid.now.view c.args.grid.now.list c.requires.cells.0 c.args.sided.now (c.loop-i.i - 1) none c.requires.cells.1 (omega arith) in
    (lies_in c.args.grid.now.view c.args.grid.now.list c.requires.cells.0 (c.loop-i.i - 1) _ is).x

pub cell-cell-requires-clause-y : goal.cell-cell-requires-clause-y
cell-cell-requires-clause-y c =
    let is = at c.args.grid.now.view c.args.grid.now.list c.requires.cells.0 c.args.sided.now (c.loop-i.i - 1) none c.requires.cells.1 (omega arith) in
    (lies_in c.args.grid.now.view c.args.grid.now.list c.requires.cells.0 (c.loop-i.i - 1) _ is).y

pub cell-cell-requires-clause-z : goal.cell-cell-requires-clause-z
cell-cell-requires-clause-z c =
    let is = at c.args.grid.now.view c.args.grid.now.list c.requires.cells.0 c.args.sided.now (c.loop-i.i - 1) none c.requires.cells.1 (omega arith) in
    (lies_in c.args.grid.now.view c.args.grid.now.list c.requires.cells.0 (c.loop-i.i - 1) _ is).z

pub cell-cell-requires-clause-mixed : goal.cell-cell-requires-clause-mixed
cell-cell-requires-clause-mixed c =
    let is = at c.args.grid.now.view c.args.grid.now.list c.requires.cells.0 c.args.sided.now (c.loop-i.i - 1) none c.requires.cells.1 (omega arith) in
    found_mixed c.args.grid.now.view c.args.grid.now.list c.requires.cells.0 (c.loop-i.i - 1) _ is

pub put_vertices-requires-clause-placed : goal.put_vertices-requires-clause-placed
put_vertices-requires-clause-placed c =
    let view = c.args.grid.now.view in
    let list = c.args.grid.now.list in
    let is = at view list c.requires.cells.0 c.args.sided.now (c.loop-i.i - 1) none c.requires.cells.1 (omega arith) in
    let vs = c.as_slice.ensures.value ∙ c.cell_vertices.ensures ∙ ap vertices_on (c.cell-cell.ensures ∙ found view list c.requires.cells.0 (c.loop-i.i - 1) _ is) in
    rw (vs, c.loop-i.invariant.view, c.requires.view) (placed view list is.cell is.own)

pub put_vertices-requires-clause-room : goal.put_vertices-requires-clause-room
put_vertices-requires-clause-room c =
    let view = c.args.grid.now.view in
    let list = c.args.grid.now.list in
    let cells = c.requires.cells.0 in
    let i = c.loop-i.i - 1 in
    let is = at view list cells c.args.sided.now i none c.requires.cells.1 (omega arith) in
    let vs = c.as_slice.ensures.value ∙ c.cell_vertices.ensures ∙ ap vertices_on (c.cell-cell.ensures ∙ found view list cells i _ is) in
    let next : i + 1 ≡ c.loop-i.i = omega arith in
    let whole = ap (λ k. length (flat_map vertices_on (take k cells))) (sym next) ∙ ap length (flat_last vertices_on cells i is.cell is.within is.here) in
    omega (arith, c.loop-i.invariant.room cells c.requires.cells.1, whole, ap length vs, length-append (flat_map vertices_on (take i cells)) (vertices_on is.cell))

pub loop-i-preserved : goal.loop-i-preserved
loop-i-preserved c =
    let view = c.args.grid.now.view in
    let list = c.args.grid.now.list in
    let sided = c.args.sided.now in
    let i = c.loop-i.i - 1 in
    let next : i + 1 ≡ c.loop-i.i = omega arith in
    let vs : (cells : List CellValues) (is : IsAt view list cells i (get_or sided i none)) → c.as_slice.result.now ≡ vertices_on is.cell =
    λ cells is. c.as_slice.ensures.value ∙ c.cell_vertices.ensures ∙ ap vertices_on (c.cell-cell.ensures ∙ found view list cells i (get_or sided i none) is) in
    let put = c.put_vertices.ensures in
    let inv = c.loop-i.invariant in
    record {
      view = put.view ∙ inv.view;
      room = λ cells are.
          let is = at view list cells sided i none are (omega arith) in
          let whole = ap (λ k. length (flat_map vertices_on (take k cells))) (sym next) ∙ ap length (flat_last vertices_on cells i is.cell is.within is.here) in
          omega (arith, put.room, inv.room cells are, whole, ap length (vs cells is), length-append (flat_map vertices_on (take i cells)) (vertices_on is.cell));
      lines = λ cells are.
          let is = at view list cells sided i none are (omega arith) in
          let grown = put.lines ∙ ap (λ v. flat_map (vertex_line v) c.as_slice.result.now ++ c.loop-i.block.bytes) (inv.view ∙ c.requires.view)
          ∙ ap (λ l. flat_map (vertex_line view) l ++ c.loop-i.block.bytes) (vs cells is) in
          let stood = inv.lines cells are ∙ ap (λ k. flat_map (vertex_line view) (flat_map vertices_on (drop k cells)) ++ c.args.block.now.bytes) (sym next) in
          lines_more (vertex_line view) cells i is.cell c.put_vertices.new.self.bytes c.loop-i.block.bytes c.args.block.now.bytes is.within is.here grown stood;
      more = λ cells are.
          let is = at view list cells sided i none are (omega arith) in
          let whole = ap length (flat_first vertices_on cells i is.cell is.within is.here) in
          let was = ap (λ k. length (flat_map vertices_on (drop k cells))) (sym next) in
          omega (arith, put.more, inv.more cells are, whole, was, ap length (vs cells is), length-append (vertices_on is.cell) (flat_map vertices_on (drop (i + 1) cells)));
    }

-- A piece that is not empty comes before what is left.
use Rattle.std.proofs.Common.{◌<◌, ap, arith, length, sym}
use Rattle.ply_writer.specs.Pieces.{Stage}
use Rattle.grid_text.specs.Texts.{AreCellsOf, cells_of}
use Rattle.grid_text.proofs.CellLaws.{some_left}
use Rattle.grid_text.proofs.grid_pieces.GridPieces.advance.Goals as goal

pub returns-then-not-is_empty-clause-done : goal.returns-then-not-is_empty-clause-done
returns-then-not-is_empty-clause-done c = (
  λ no. cc,
  λ none.
      let d = c.self.inside.grid.now in
      let block = c.put_vertices-self-inside.new.block in
      let some : 0 < length block.bytes = grind (arith, c.is_empty.ensures, c.if-not-is_empty.true, c.piece.ensures.piece) in
      let are : AreCellsOf d.view d.list (cells_of d.view d.list) c.cells.result.now = rw c.cells.ensures c.self.invariant.cells in
      absurd (omega (arith, some_left _ block.bytes _ _ c.args.self.now.rest (c.put_vertices-self-inside.ensures.lines (cells_of d.view d.list) are) some (ap (λ (s : Stage). s.rest) (sym c.self.view_is)) none)),
)

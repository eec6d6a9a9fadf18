-- The numbers are written from the last to the first.
use Rattle.ply_writer.proofs.LineLaws.{vertex_pieces}
use Rattle.ply_writer.proofs.line.vertex_line.Goals as goal

pub returns-clause-line : goal.returns-clause-line
returns-clause-line c =
    rw (
      c.place_before.ensures.written,
      c.byte_before-start-3.ensures.written,
      c.place_before-start-2.ensures.written,
      c.byte_before-start-2.ensures.written,
      c.place_before-start.ensures.written,
      c.byte_before-start.ensures.written,
    )
    (vertex_pieces _ _ _ _)

-- The counts are written from the last to the first.
use Rattle.ply_writer.proofs.LineLaws.{face_pieces}
use Rattle.ply_writer.proofs.line.face_line.Goals as goal

pub returns-clause-line : goal.returns-clause-line
returns-clause-line c =
    rw (
      c.byte_before.ensures.written,
      c.byte_before-start-4.ensures.written,
      c.count_before-start-3.ensures.written,
      c.byte_before-start-3.ensures.written,
      c.count_before-start-2.ensures.written,
      c.byte_before-start-2.ensures.written,
      c.count_before-start.ensures.written,
      c.byte_before-start.ensures.written,
      ← c.face.view_is,
    )
    (face_pieces _ _ _ _)

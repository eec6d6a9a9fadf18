-- The header is written from the last to the first.
use Rattle.ply_writer.proofs.LineLaws.{header_pieces}
use Rattle.ply_writer.proofs.header.header_before.Goals as goal

pub returns-clause-header : goal.returns-clause-header
returns-clause-header c =
    rw (
      c.bytes_before.ensures.written,
      c.digits_before-start-2.ensures.written,
      c.bytes_before-start-2.ensures.written,
      c.digits_before-start.ensures.written,
      c.bytes_before-start.ensures.written,
    )
    (header_pieces c.args.vertices c.args.faces _)

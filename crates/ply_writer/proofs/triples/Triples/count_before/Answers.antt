-- The last three digits, and those before them.
use Rattle.std.proofs.Common.{arith}
use Rattle.ply_writer.proofs.TripleLaws.{count_parts, count_pieces}
use Rattle.ply_writer.proofs.triples.Triples.count_before.Goals as goal

pub returns-then-count-lt1000000-clause-written : goal.returns-then-count-lt1000000-clause-written
returns-then-count-lt1000000-clause-written c =
    rw (c.front_before.ensures.written, c.triple_before-start.ensures.written) (count_pieces c.args.count _ (omega arith) (omega arith))

pub returns-then-count-lt1000000000-clause-written : goal.returns-then-count-lt1000000000-clause-written
returns-then-count-lt1000000000-clause-written c =
    rw (c.front_before-then-count-lt1000000000.ensures.written, c.triple_before-start-then-count-lt1000000000.ensures.written, c.triple_before-last.ensures.written) (count_parts c.args.count _ _ (omega arith) (omega arith) (omega arith))

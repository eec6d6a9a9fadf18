-- One byte before the other.
use Rattle.std.proofs.Common.{drop, ◌∙◌}
use Rattle.ply_writer.proofs.TripleLaws.{after_byte, triple_chain}
use Rattle.ply_writer.proofs.triples.Triples.triple_before.Goals as goal

pub returns-clause-written : goal.returns-clause-written
returns-clause-written c =
    let entry = c.index.result.now in
    let front = c.byte_before-front in
    let first = drop c.byte_before-first.result c.byte_before-first.new.line in
    after_byte front.result c.byte_before-first.result _ front.new.line first front.ensures.start front.ensures.written
    ∙ triple_chain entry c.args.number (drop c.args.end c.args.line.now) _ _ first (c.index.ensures ∙ c.requires.triples.each c.args.number entry c.requires.number) c.byte_before-third.ensures.written c.byte_before-second.ensures.written c.byte_before-first.ensures.written

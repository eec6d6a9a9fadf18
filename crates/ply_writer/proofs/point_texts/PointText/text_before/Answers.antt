-- The text without what stands in front of it.
use Rattle.std.proofs.Common.{◌-◌, arith, drop, ◌∙◌}
use Rattle.std.proofs.lemmas.List.{drop-append-le}
use Rattle.ply_writer.proofs.TripleLaws.{behind}
use Rattle.fixed_ops.proofs.Lists.{copied_before}
use Rattle.ply_writer.proofs.point_texts.PointText.text_before.Goals as goal

pub returns-clause-written : goal.returns-clause-written
returns-clause-written c =
    let bytes = c.args.self.now.bytes in
    let rest = drop c.args.end c.args.line.now in
    let copied = copied_before bytes c.args.line.now (c.args.end - 22) c.args.end (omega arith) (omega arith) in
    rw (c.from.ensures, c.copy_from_slice.ensures.after)
    (behind c.args.self.now.start (c.args.end - 22) _ bytes rest copied ∙ drop-append-le c.args.self.now.start bytes rest (omega (arith, c.requires.start)))

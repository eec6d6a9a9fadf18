use Rattle.fixed_ops.proofs.PartLaws.{size_pieces}
use Rattle.fixed_ops.proofs.text_before.size_before.Goals as goal

pub returns-clause-written : goal.returns-clause-written
returns-clause-written c =
    rw (c.write_digits.ensures.written, c.decimals_before-point.ensures.written) (size_pieces c.args.n _)

-- What was copied stands before what follows it.
use Rattle.std.proofs.Common.{arith}
use Rattle.fixed_ops.proofs.Lists.{copied_before}
use Rattle.ply_writer.proofs.digits.bytes_before.Goals as goal

pub returns-clause-written : goal.returns-clause-written
returns-clause-written c =
    rw c.copy_from_slice.ensures.after (copied_before c.args.bytes.now c.args.line.now _ c.args.end (omega arith) (omega arith))

use Rattle.std.proofs.Common.{sym, arith}
use Rattle.std.proofs.lemmas.Int.{ints}
use Rattle.fixed_ops.proofs.ResultLaws.{root_of_low}
use Rattle.fixed_ops.proofs.root.root.Goals as goal

pub returns-then-a-le0-clause-value : goal.returns-then-a-le0-clause-value
returns-then-a-le0-clause-value c = sym (root_of_low c.args.a (omega (arith, ints)))

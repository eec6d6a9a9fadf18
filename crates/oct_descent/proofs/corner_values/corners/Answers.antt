use Rattle.std.proofs.Common.{arith}
use Rattle.oct_descent.proofs.corner_values.corners.Goals as goal

pub returns-clause-all : goal.returns-clause-all
returns-clause-all c = record {
  all = c.loop-c.invariant.all;
  each = λ k few. c.loop-c.invariant.each k (omega (arith, few, c.loop-c-test.false));
}

use Rattle.std.proofs.Common.{◌*◌, ◌/◌, ◌^◌, ◌≤◌}
use Rattle.fixed_ops.proofs.quotient.lowered.Given as goal

abbrev pub invariant-loop-quotient : goal.invariant-loop-quotient
invariant-loop-quotient l = l.r * 2 ^ 32 / l.d ≤ l.quotient

abbrev pub decreases-loop-quotient : goal.decreases-loop-quotient
decreases-loop-quotient l = l.quotient

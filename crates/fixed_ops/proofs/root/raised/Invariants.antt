use Rattle.std.proofs.Common.{◌-◌, ◌*◌, ◌≤◌}
use Rattle.fixed_ops.proofs.root.raised.Given as goal

abbrev pub invariant-loop-root : goal.invariant-loop-root
invariant-loop-root l = l.root * l.root ≤ l.n

abbrev pub decreases-loop-root : goal.decreases-loop-root
decreases-loop-root l = l.n - l.root * l.root

use Rattle.fixed_ops.proofs.root.lowered.Given as goal

abbrev pub decreases-loop-root : goal.decreases-loop-root
decreases-loop-root l = l.root

-- Half of the balls are fewer.
use Rattle.model_tests.proofs.solids.+push_balls.Given as goal

abbrev pub decreases-push_balls : goal.decreases-push_balls
decreases-push_balls l = l.count

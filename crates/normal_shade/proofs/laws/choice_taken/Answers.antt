use Rattle.normal_shade.proofs.Choices.{slope_is_taken}
use Rattle.normal_shade.proofs.laws.choice_taken.Goals as goal

pub returns-clause-slope : goal.returns-clause-slope
returns-clause-slope c = slope_is_taken c.args.op c.args.a c.args.b c.args.u c.args.v c.choice_kept.ensures.wins

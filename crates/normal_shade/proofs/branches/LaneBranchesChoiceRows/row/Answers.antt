use Rattle.std.proofs.Common.{arith}
use Rattle.choice_trace.specs.Lanes.{number_at}
use Rattle.normal_shade.proofs.Reached.{branches-length}
use Rattle.normal_shade.proofs.branches.LaneBranchesChoiceRows.row.Goals as goal

pub row_at-requires-clause-there : goal.row_at-requires-clause-there
row_at-requires-clause-there c = omega (arith, c.requires 0 (omega arith), branches-length c.args.self.list.now (number_at 0 c.args.self.values.now))

use Rattle.std.proofs.Common.{arith}
use Rattle.normal_shade.specs.Duals.{dual_in}
use Rattle.normal_shade.proofs.Reached.{branches-length}
use Rattle.normal_shade.proofs.branches.PointBranchesChoiceRows.row.Goals as goal

pub point_row_at-requires-clause-there : goal.point_row_at-requires-clause-there
point_row_at-requires-clause-there c = omega (arith, c.requires 0 (omega arith), branches-length c.args.self.list.now (λ k. (dual_in k c.args.self.duals.now).value))

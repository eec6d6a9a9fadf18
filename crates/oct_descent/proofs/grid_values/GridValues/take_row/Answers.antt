use Rattle.std.proofs.Common.{sym, ◌∙◌}
use Rattle.oct_descent.specs.Taking.{IsInRow}
use Rattle.oct_descent.proofs.Takes.{row-unknown, takes-empty}
use Rattle.oct_descent.proofs.grid_values.GridValues.take_row.Goals as goal

pub returns-in_default-clause-all : goal.returns-in_default-clause-all
returns-in_default-clause-all c =
    takes-empty (IsInRow c.args.first c.args.end c.args.y c.args.z) c.args.other.now c.args.self.now
    (λ p one known. row-unknown c.args.other.now c.args.first c.args.end c.args.y c.args.z p c.requires.brick (sym c.stand.ensures.stand ∙ c.in_default.is) one known)

use Rattle.oct_descent.proofs.Bricks.{brick-within}
use Rattle.oct_descent.proofs.grid_values.brick_of.Goals as goal

pub returns-clause-within : goal.returns-clause-within
returns-clause-within c =
    brick-within c.args.n c.args.x c.args.y c.args.z c.bricks_along-rows.result c.bricks_along-in_row.result c.bricks_along-rows.ensures c.bricks_along-in_row.ensures c.requires.x c.requires.y c.requires.z

use Rattle.std.proofs.Common.{◌+◌, ◌*◌}
use Rattle.box_chains.specs.Chains.{sides}
use Rattle.quad_descent.proofs.RowParts.{column_turns}
use Rattle.quad_descent.proofs.picture.Picture.+painting.Given as goal

abbrev pub decreases-paint_box : goal.decreases-paint_box
decreases-paint_box l = 3 * sides l.b + 1

abbrev pub decreases-paint_halves : goal.decreases-paint_halves
decreases-paint_halves l = 3 * sides l.b

abbrev pub decreases-paint_columns : goal.decreases-paint_columns
decreases-paint_columns l = column_turns l.rows

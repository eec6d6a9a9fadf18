use Rattle.std.proofs.Common.{◌≡◌, ℕ, length, sym}
use Rattle.std.specs.Prelude.{Option, Some, None, IfSome}
use Rattle.kuhn_cells.specs.Triangles.{point}
use Rattle.oct_descent.specs.Corners.{IsRow}
use Rattle.oct_descent.specs.Tables.{AreKept, PointValues, stand}
use Rattle.oct_descent.proofs.Bricks.{row-is}
use Rattle.oct_descent.proofs.grid_values.GridValues.row.Goals as goal

pub returns-clause-row : goal.returns-clause-row
returns-clause-row c = by c.stand.result c.stand.ensures.stand
  where
    t : PointValues
    t = c.args.self.now

    kept : AreKept t.places (length t.kept.known) (length t.kept.values)
    kept = c.holds.ensures.kept

    by : (o : Option ℕ) → o ≡ stand t (point c.args.x c.args.y c.args.z) → IfSome o (IsRow t (point c.args.x c.args.y c.args.z))
    by None e = tt
    by (Some start) e = row-is t (point c.args.x c.args.y c.args.z) start kept c.requires.y c.requires.z c.requires.eighth (sym e)

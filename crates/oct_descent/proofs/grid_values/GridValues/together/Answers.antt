use Rattle.std.proofs.Common.{◌≡◌, ℕ, ◌⊎◌, inr, arith, length, sym}
use Rattle.std.specs.Prelude.{Option, Some, None, IfNone, IfSome}
use Rattle.kuhn_cells.specs.Triangles.{point}
use Rattle.oct_descent.specs.Corners.{AreTogether, CrossesBricks}
use Rattle.oct_descent.specs.Tables.{AreKept, PointValues, stand}
use Rattle.oct_descent.proofs.Bricks.{together-is}
use Rattle.oct_descent.proofs.grid_values.GridValues.together.Goals as goal

pub returns : goal.returns
returns c = record {
  together = by c.stand.result c.stand.ensures.stand;
  none = missing c.stand.result c.stand.ensures.stand;
}
  where
    t : PointValues
    t = c.args.self.now

    kept : AreKept t.places (length t.kept.known) (length t.kept.values)
    kept = c.holds.ensures.kept

    by : (o : Option ℕ) → o ≡ stand t (point c.args.x c.args.y c.args.z) → IfSome o (AreTogether t (point c.args.x c.args.y c.args.z))
    by None e = tt
    by (Some first) e =
        together-is t (point c.args.x c.args.y c.args.z) first kept c.requires.x c.requires.y c.requires.z (sym e) (λ h. absurd (omega (arith, h, c.if-x-eq7.false))) (λ h. absurd (omega (arith, h, c.if-y-eq7.false)))
        (λ h. absurd (omega (arith, h, c.if-z-eq7.false)))

    missing : (o : Option ℕ) → o ≡ stand t (point c.args.x c.args.y c.args.z)
        → IfNone o (CrossesBricks (point c.args.x c.args.y c.args.z) ⊎ stand t (point c.args.x c.args.y c.args.z) ≡ None)
    missing None e = inr (sym e)
    missing (Some first) e = tt

use Rattle.std.proofs.Common.{◌+◌, arith, subst, ◌∙◌}
use Rattle.std.specs.Prelude.{IfSome}
use Rattle.kuhn_cells.specs.Triangles.{further, point}
use Rattle.oct_descent.specs.Corners.{AreTogether, places_to}
use Rattle.oct_descent.proofs.Bricks.{reads}
use Rattle.oct_descent.proofs.grid_values.GridValues.corner.Goals as goal

pub returns-in-Some : goal.returns-in-Some
returns-in-Some c =
    let t = c.args.self.now in
    let p = point c.args.x c.args.y c.args.z in
    let together : AreTogether t p c.in-Some.first = subst (λ o. IfSome o (AreTogether t p)) c.in-Some.is c.requires.first in
    c.read.ensures
    ∙ reads t (further p c.args.c) (c.in-Some.first + places_to c.args.c) (omega (arith, c.requires.x)) (omega (arith, c.requires.y)) (omega (arith, c.requires.z)) (together.stands c.args.c c.requires.c)

use Rattle.std.proofs.Common.{ap, arith, set, subst, true}
use Rattle.kuhn_cells.specs.Triangles.{point}
use Rattle.oct_descent.specs.Known.{Sets}
use Rattle.contour_lines.specs.Tables.{PlaneValues, known_of}
use Rattle.contour_lines.proofs.KnownLaws.{plane-sets}
use Rattle.contour_lines.proofs.Theorems.{planes}
use Rattle.contour_lines.proofs.known_values.KnownValues.set.Goals as goal

pub returns : goal.returns
returns c =
    let i = c.self.inside in
    let at = c.place_of-at.result in
    let t : PlaneValues = record { n = i.n; kept = record { known = i.known.items; values = i.values.items } } in
    let after : PlaneValues = record { n = t.n; kept = record { known = set t.kept.known at true; values = set t.kept.values at c.args.value } } in
    subst (λ (u : PlaneValues). Sets (point c.args.x c.args.y 0) c.args.value (known_of u) (known_of after)) c.self.view_is
    (plane-sets planes t c.args.x c.args.y c.args.value at (omega (arith, c.requires.x, ap (λ u. u.n.x) c.self.view_is)) (omega (arith, c.requires.y, ap (λ u. u.n.y) c.self.view_is)) c.place_of-at.ensures.place
    (omega (arith, c.place_of-at.ensures.within, c.self.invariant.2)) (omega (arith, c.place_of-at.ensures.within, c.self.invariant.3)))

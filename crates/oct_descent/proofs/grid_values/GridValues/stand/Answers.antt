use Rattle.std.proofs.Common.{◌-◌, ◌*◌, ◌+◌, ◌<◌, ap, arith, get_or, length, sym, ◌∙◌}
use Rattle.std.specs.Prelude.{Some}
use Rattle.std.proofs.lemmas.List.{get_or_default}
use Rattle.kuhn_cells.specs.Triangles.{point}
use Rattle.oct_descent.specs.Tables.{PointValues, stand}
use Rattle.oct_descent.proofs.Bricks.{stand-none, stand-some}
use Rattle.oct_descent.proofs.grid_values.GridValues.stand.Goals as goal

pub returns-then-place-eq0-clause-stand : goal.returns-then-place-eq0-clause-stand
returns-then-place-eq0-clause-stand c =
    let i = c.self.inside in
    let t : PointValues = record { n = i.n; places = i.places.items; kept = record { known = i.known.items; values = i.values.items } } in
    let p = point c.args.x c.args.y c.args.z in
    let within : c.brick_of.result < length t.places = omega (arith, c.brick_of.ensures.within, c.self.invariant.1) in
    let is = c.index-place.ensures ∙ get_or_default t.places c.brick_of.result c.index-place.result.now 0 within ∙ ap (λ k. get_or t.places k 0) c.brick_of.ensures.brick in
    sym (stand-none t p (omega (arith, is, c.if-place-eq0.true))) ∙ ap (λ u. stand u p) c.self.view_is

pub returns-clause-stand : goal.returns-clause-stand
returns-clause-stand c =
    let i = c.self.inside in
    let t : PointValues = record { n = i.n; places = i.places.items; kept = record { known = i.known.items; values = i.values.items } } in
    let p = point c.args.x c.args.y c.args.z in
    let within : c.brick_of.result < length t.places = omega (arith, c.brick_of.ensures.within, c.self.invariant.1) in
    let is = c.index-place.ensures ∙ get_or_default t.places c.brick_of.result c.index-place.result.now 0 within ∙ ap (λ k. get_or t.places k 0) c.brick_of.ensures.brick in
    ap (λ s. Some ((c.index-place.result.now - 1) * 512 + s)) c.slot.ensures.slot ∙ sym (stand-some t p c.index-place.result.now is (omega (arith, c.if-place-eq0.false))) ∙ ap (λ u. stand u p) c.self.view_is

pub returns-clause-within : goal.returns-clause-within
returns-clause-within c =
    let i = c.self.inside in
    let t : PointValues = record { n = i.n; places = i.places.items; kept = record { known = i.known.items; values = i.values.items } } in
    let within : c.brick_of.result < length t.places = omega (arith, c.brick_of.ensures.within, c.self.invariant.1) in
    let is = c.index-place.ensures ∙ get_or_default t.places c.brick_of.result c.index-place.result.now 0 within in
    let len = ap (λ u. length u.kept.known) c.self.view_is in
    omega (arith, is, c.if-place-eq0.false, c.slot.ensures.within, c.self.invariant.2.within c.brick_of.result, len)

use Rattle.std.proofs.Common.{◌≡◌, ◌+◌, ◌/◌, ◌<◌, ap, arith, get_or, length, set, subst, sym, ◌∙◌}
use Rattle.std.specs.Prelude.{Some}
use Rattle.kuhn_cells.specs.Triangles.{point}
use Rattle.oct_descent.specs.Tables.{IsSame, KeepsPlaces, Marks, PointValues, read, stand}
use Rattle.oct_descent.proofs.Bricks.{added-keeps, brick-filled, brick-stands, kept-same, roomless, values-filled}
use Rattle.oct_descent.proofs.grid_values.GridValues.add_brick.Goals as goal

pub returns-in_err-resize-2-clause-same : goal.returns-in_err-resize-2-clause-same
returns-in_err-resize-2-clause-same c =
    let i = c.self.inside in
    let t : PointValues = record { n = i.n; places = i.places.items; kept = record { known = i.known.items; values = i.values.items } } in
    let same = c.in_err-resize-2.ensures.items in
    let more = c.in_ok-resize.ensures.items in
    let after : Marks = record { known = c.resize-2.new.self.items; values = c.resize.new.self.items } in
    subst (λ (u : PointValues). IsSame u (record { n = t.n; places = t.places; kept = after })) c.self.view_is
    (kept-same t after (λ k.
    ap (λ l. read (record { known = l; values = c.resize.new.self.items }) k) same
    ∙ ap (λ l. read (record { known = i.known.items; values = l }) k) more
    ∙ values-filled t.kept (c.len-start.result + 512) _ k c.from_raw.result (omega (arith, c.len-start.ensures)) c.self.invariant.2.enough))

pub returns-clause-same : goal.returns-clause-same
returns-clause-same c =
    let i = c.self.inside in
    let t : PointValues = record { n = i.n; places = i.places.items; kept = record { known = i.known.items; values = i.values.items } } in
    let p = point c.args.x c.args.y c.args.z in
    let at = c.brick_of.result in
    let within : c.brick_of.result < length t.places = omega (arith, c.brick_of.ensures.within, c.self.invariant.1) in
    let none = ap (λ k. get_or t.places k 0) c.brick_of.ensures.brick ∙ roomless t p (ap (λ u. stand u p) c.self.view_is ∙ c.requires.room) in
    let len : c.len-start.result ≡ length t.kept.known = omega (arith, c.len-start.ensures) in
    let after : PointValues = record { n = t.n; places = set t.places at (c.len-start.result / 512 + 1); kept = record { known = c.resize-2.new.self.items; values = c.resize.new.self.items } } in
    subst (λ (u : PointValues). IsSame u after) c.self.view_is
    (brick-filled t c.resize-2.new.self.items c.resize.new.self.items c.len-start.result at _ _ c.from_raw.result len c.self.invariant.2 within none c.in_ok-resize.ensures.items c.in_ok-resize-2.ensures.items)

pub returns-clause-room : goal.returns-clause-room
returns-clause-room c =
    let i = c.self.inside in
    let t : PointValues = record { n = i.n; places = i.places.items; kept = record { known = i.known.items; values = i.values.items } } in
    let p = point c.args.x c.args.y c.args.z in
    let within : c.brick_of.result < length t.places = omega (arith, c.brick_of.ensures.within, c.self.invariant.1) in
    let len : c.len-start.result ≡ length t.kept.known = omega (arith, c.len-start.ensures) in
    let after : Marks = record { known = c.resize-2.new.self.items; values = c.resize.new.self.items } in
    brick-stands t after p c.len-start.result c.brick_of.result c.self.invariant.2 len c.brick_of.ensures.brick within ∙ ap (λ s. Some (c.len-start.result + s)) (sym c.slot.ensures.slot)

pub returns-clause-keeps : goal.returns-clause-keeps
returns-clause-keeps c =
    let i = c.self.inside in
    let t : PointValues = record { n = i.n; places = i.places.items; kept = record { known = i.known.items; values = i.values.items } } in
    let p = point c.args.x c.args.y c.args.z in
    let none = ap (λ k. get_or t.places k 0) c.brick_of.ensures.brick ∙ roomless t p (ap (λ u. stand u p) c.self.view_is ∙ c.requires.room) in
    let now : Marks = record { known = c.resize-2.new.self.items; values = c.resize.new.self.items } in
    subst (λ (u : PointValues). KeepsPlaces u (record { n = t.n; places = set t.places c.brick_of.result (c.len-start.result / 512 + 1); kept = now })) c.self.view_is
    (added-keeps t now c.brick_of.result (c.len-start.result / 512 + 1) none (omega (arith, c.in_ok-resize-2.ensures.len, c.len-start.ensures)))

use Rattle.std.proofs.Common.{◌-◌, ◌*◌, ◌<◌, arith, ap, subst, ◌∙◌, refl, length}
use Rattle.view_places.specs.Boxes.{IsBox}
use Rattle.quad_descent.specs.Painting.{byte_at}
use Rattle.quad_descent.proofs.PaintLaws.{met-rows, row-filled, rows-painted}
use Rattle.quad_descent.proofs.picture.Picture.fill_box.Goals as goal

pub overflow_add-band : goal.overflow_add-band
overflow_add-band c = omega (arith, c.requires.band.few)

pub loop-j-preserved : goal.loop-j-preserved
loop-j-preserved c =
    let view = c.args.self.now.view in
    let b = c.args.b in
    let row = c.args.band.row in
    let is = subst (λ a. IsBox a) c.b.view_is c.b.invariant in
    let w = ap (λ s. s.view.w) c.self-inside.view_is ∙ ap (λ s. s.view.w) c.self.view_is in
    let x0 = ap (λ a. a.x0) c.b.view_is in
    let x1 = ap (λ a. a.x1) c.b.view_is in
    let y0 = ap (λ a. a.y0) c.b.view_is in
    let y1 = ap (λ a. a.y1) c.b.view_is in
    let some : 0 < view.w = omega (arith, w, c.self-inside.invariant.w.some) in
    let products = ap (λ n. (c.loop-j.j - row) * n) w in
    row-filled view row c.loop-j.j c.args.byte _ _ b (byte_at view c.args.self.now.list row) c.args.pixels.now c.loop-j.pixels c.fill.new.pixels some is c.requires.within
    (omega (arith, c.loop-j.auto, c.max-j.ensures)) (omega (arith, c.loop-j.auto, c.max-j.ensures, y0)) (omega (arith, c.loop-j-test.true, c.min-j-end.ensures, y1))
    (omega (arith, products, x0)) (omega (arith, products, x1))
    c.requires.byte c.loop-j.invariant c.fill.ensures

pub returns : goal.returns
returns c =
    let view = c.args.self.now.view in
    let b = c.args.b in
    let y0 = ap (λ a. a.y0) c.b.view_is in
    let y1 = ap (λ a. a.y1) c.b.view_is in
    let is = subst (λ a. IsBox a) c.b.view_is c.b.invariant in
    let ends = met-rows c.args.band b c.loop-j.j c.min-j-end.result c.max-j.result is.y c.requires.meets (omega (arith, c.max-j.ensures, y0)) (omega (arith, c.min-j-end.ensures, y1)) c.loop-j-test.false c.loop-j.auto.j-end in
    rows-painted view c.args.band (length c.args.pixels.now) c.loop-j.j b (byte_at view c.args.self.now.list c.args.band.row) c.args.pixels.now c.loop-j.pixels c.requires.band refl ends.0 ends.1 c.loop-j.invariant

use Rattle.std.proofs.Common.{◌+◌, ◌-◌, ◌*◌, ap, arith, subst, ◌∙◌}
use Rattle.view_places.specs.Boxes.{IsBox}
use Rattle.quad_descent.proofs.Eights.{row-painted}
use Rattle.quad_descent.proofs.picture.Picture.paint_row.Goals as goal

pub returns-in-8 : goal.returns-in-8
returns-in-8 c =
    let view = c.args.self.now.view in
    let b = c.args.b in
    let is = subst (λ a. IsBox a) c.b.view_is c.b.invariant in
    let w = ap (λ s. s.view.w) c.self-inside.view_is ∙ ap (λ s. s.view.w) c.self.view_is in
    let x0 = ap (λ a. a.x0) c.b.view_is in
    let x1 = ap (λ a. a.x1) c.b.view_is in
    row-painted view c.args.self.now.list c.args.band.row c.args.j c.args.bits _ b c.args.pixels.now c.paint_eight.new.pixels is c.requires.within c.requires.above
    (omega (arith, x0, x1, c.in-8.is)) (ap (λ n. (c.args.j - c.args.band.row) * n + c.b.inside.x0) w ∙ ap (λ n. (c.args.j - c.args.band.row) * view.w + n) x0) c.requires.bits c.paint_eight.ensures

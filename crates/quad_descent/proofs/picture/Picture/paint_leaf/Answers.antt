use Rattle.std.proofs.Common.{◌-◌, ◌+◌, ◌*◌, ◌<◌, arith, ap, sym, subst, ◌∙◌, refl, length}
use Rattle.view_places.specs.Boxes.{IsBox}
use Rattle.view_places.specs.Spans.{IsInRoot}
use Rattle.view_places.specs.declared.lattice.Lattice.TheVariants.{Raster}
use Rattle.quad_descent.specs.Nodes.{bits_of, insides}
use Rattle.quad_descent.specs.Painting.{Paints, among, byte_at}
use Rattle.quad_descent.proofs.PaintLaws.{met-rows, row-painted, row-read, rows-painted}
use Rattle.quad_descent.proofs.picture.Picture.paint_leaf.Goals as goal

pub overflow_add-band : goal.overflow_add-band
overflow_add-band c = omega (arith, c.requires.band.few)

pub overflow_sub-j : goal.overflow_sub-j
overflow_sub-j c =
    let y0 = ap (λ a. a.y0) c.b.view_is in
    let inside = ap (λ a. a.y0) (c.b-in-loop-j.view_is ∙ c.loop-j.invariant.same) in
    omega (arith, y0, inside, c.loop-j.auto, c.max-j.ensures)

pub bounds-rows-j : goal.bounds-rows-j
bounds-rows-j c =
    let y1 = ap (λ a. a.y1) c.b.view_is in
    let inside = ap (λ a. a.y0) (c.b-in-loop-j.view_is ∙ c.loop-j.invariant.same) in
    omega (arith, y1, inside, c.loop-j-test.true, c.min-j-end.ensures, c.requires.low)

pub paint_row-requires-clause-within : goal.paint_row-requires-clause-within
paint_row-requires-clause-within c = subst (λ a. IsInRoot c.args.self.now.view Raster a) (sym c.loop-j.invariant.same) c.requires.within

pub paint_row-requires-clause-bits : goal.paint_row-requires-clause-bits
paint_row-requires-clause-bits c =
    let y0 = ap (λ a. a.y0) c.b.view_is in
    let y1 = ap (λ a. a.y1) c.b.view_is in
    let inside = ap (λ a. a.y0) (c.b-in-loop-j.view_is ∙ c.loop-j.invariant.same) in
    row-read c.args.self.now.view c.args.self.now.list c.args.b c.args.rows.now c.loop-j.j _ c.requires.rows c.requires.low
    (omega (arith, y0, c.loop-j.auto, c.max-j.ensures)) (omega (arith, y1, c.loop-j-test.true, c.min-j-end.ensures)) (ap (λ n. c.loop-j.j - n) inside)
    ∙ ap (λ a. bits_of (insides c.args.self.now.view Raster c.args.self.now.list a c.loop-j.j)) (sym c.loop-j.invariant.same)

pub loop-j-preserved : goal.loop-j-preserved
loop-j-preserved c =
    let view = c.args.self.now.view in
    let b = c.args.b in
    let row = c.args.band.row in
    let f = byte_at view c.args.self.now.list row in
    let is = subst (λ a. IsBox a) c.b.view_is c.b.invariant in
    let y0 = ap (λ a. a.y0) c.b.view_is in
    let some : 0 < view.w = omega (arith, c.requires.within.x, is.x) in
    record {
      same = c.loop-j.invariant.same;
      paints = row-painted view row c.loop-j.j b f c.args.pixels.now c.loop-j.pixels c.paint_row.new.pixels some is c.requires.within
          (omega (arith, c.loop-j.auto, c.max-j.ensures)) (omega (arith, c.loop-j.auto, c.max-j.ensures, y0)) c.loop-j.invariant.paints
          (subst (λ a. Paints (among ((c.loop-j.j - row) * view.w + a.x0) ((c.loop-j.j - row) * view.w + a.x1)) f c.loop-j.pixels c.paint_row.new.pixels) c.loop-j.invariant.same c.paint_row.ensures);
    }

pub returns : goal.returns
returns c =
    let view = c.args.self.now.view in
    let b = c.args.b in
    let y0 = ap (λ a. a.y0) c.b.view_is in
    let y1 = ap (λ a. a.y1) c.b.view_is in
    let is = subst (λ a. IsBox a) c.b.view_is c.b.invariant in
    let ends = met-rows c.args.band b c.loop-j.j c.min-j-end.result c.max-j.result is.y c.requires.meets (omega (arith, c.max-j.ensures, y0)) (omega (arith, c.min-j-end.ensures, y1)) c.loop-j-test.false c.loop-j.auto.j-end in
    rows-painted view c.args.band (length c.args.pixels.now) c.loop-j.j b (byte_at view c.args.self.now.list c.args.band.row) c.args.pixels.now c.loop-j.pixels c.requires.band refl ends.0 ends.1 c.loop-j.invariant.paints

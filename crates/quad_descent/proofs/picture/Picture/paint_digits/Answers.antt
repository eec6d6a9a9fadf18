use Rattle.std.proofs.Common.{◌-◌, ◌*◌, ◌<◌, ℕ, Bool, cond, arith, ap, subst, ◌∙◌, refl, length}
use Rattle.fixed_ops.specs.Raw.{is_inside}
use Rattle.live_clauses.specs.Steps.{tape_value}
use Rattle.view_places.specs.Boxes.{IsBox}
use Rattle.view_places.specs.Places.{point_of}
use Rattle.view_places.specs.declared.lattice.Lattice.TheVariants.{Raster}
use Rattle.quad_descent.proofs.PaintLaws.{digit-painted, digit-read}
use Rattle.quad_descent.proofs.picture.Picture.paint_digits.Goals as goal

pub loop-n-preserved : goal.loop-n-preserved
loop-n-preserved c =
    let view = c.args.self.now.view in
    let list = c.args.self.now.list in
    let b = c.args.b in
    let f : ℕ → Bool = λ i. is_inside (tape_value (point_of view Raster i c.args.j b.z0) list) in
    let is = subst (λ a. IsBox a) c.b.view_is c.b.invariant in
    let w = ap (λ s. s.view.w) c.self-inside.view_is ∙ ap (λ s. s.view.w) c.self.view_is in
    let x0 = ap (λ a. a.x0) c.b.view_is in
    let x1 = ap (λ a. a.x1) c.b.view_is in
    let less : c.loop-n.n < b.x1 - b.x0 = omega (arith, x0, x1, c.requires.width, c.loop-n-test.true) in
    let read = digit-read f b.x0 b.x1 c.loop-n.n c.loop-n.rest less c.loop-n.invariant.rest in
    record {
      rest = read.0;
      paints = digit-painted view list c.args.band (length c.args.pixels.now) c.args.j c.loop-n.n c.pixel.result _ _ b c.args.pixels.now c.loop-n.pixels
          c.requires.band refl is c.requires.within c.requires.above c.requires.below less (ap (λ n. (c.args.j - c.args.band.row) * n) w) (omega (arith, x1))
          (c.pixel.ensures ∙ ap (λ (t : Bool). cond {A = ℕ} t 255 0) read.1) c.loop-n.invariant.paints;
    }

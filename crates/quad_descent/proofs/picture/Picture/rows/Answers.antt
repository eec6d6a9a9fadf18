use Rattle.std.proofs.Common.{◌≡◌, ◌*◌, ◌/◌, ◌<◌, [], arith, ap, sym, subst, ◌∙◌, refl, append-nil, length}
use Rattle.std.proofs.lemmas.Nat.{div-add-mod'}
use Rattle.box_chains.specs.Visits.{IsVisit}
use Rattle.view_places.specs.Spans.{root_box_of}
use Rattle.view_places.specs.declared.lattice.Lattice.TheVariants.{Raster}
use Rattle.box_chains.proofs.Theorems.{laws}
use Rattle.quad_descent.specs.Drawn.{IsDrawnAt}
use Rattle.quad_descent.specs.Nodes.{nodes_of}
use Rattle.quad_descent.specs.Raster.{raster, raster_root}
use Rattle.quad_descent.specs.Painting.{IsBand, byte_at}
use Rattle.quad_descent.proofs.PaintLaws.{unmet}
use Rattle.quad_descent.proofs.Painted.{band-painted}
use Rattle.quad_descent.proofs.picture.Picture.rows.Goals as goal

pub paint_box-requires-clause-drawn : goal.paint_box-requires-clause-drawn
paint_box-requires-clause-drawn c =
    let view = c.args.self.now.view in
    let list = c.args.self.now.list in
    subst (λ b. IsDrawnAt view list 0 b) (sym (c.root-image.ensures ∙ ap (λ s. root_box_of s.view Raster) c.self.view_is))
    (record {
      received = list;
      visit_is = subst (λ s. IsVisit (raster s.view) (raster_root s.view s.list)) c.self.view_is c.self.invariant.1;
      values = λ s lies. refl;
      stands = record { front = []; rest = []; place = refl; is = sym (append-nil (nodes_of (raster view) (raster_root view list))) };
    })

pub returns-then-not-meets : goal.returns-then-not-meets
returns-then-not-meets c =
    let view = c.args.self.now.view in
    let list = c.args.self.now.list in
    let rows = length c.args.pixels.now / view.w in
    let w = ap (λ s. s.view.w) c.self-inside.view_is ∙ ap (λ s. s.view.w) c.self.view_is in
    let some : 0 < view.w = omega (arith, w, c.self-inside.invariant.w.some) in
    let parts = div-add-mod' (length c.args.pixels.now) view.w in
    let count : length c.args.pixels.now ≡ rows * view.w = omega (arith, parts, c.requires.whole) in
    let at = ap (λ n. length c.args.pixels.now / n) w in
    let h = ap (λ s. s.view.h) c.self-inside.view_is ∙ ap (λ s. s.view.h) c.self.view_is in
    let is_band : IsBand view (record { row = c.args.row; rows = length c.args.pixels.now / c.self-inside.inside.0.0.w }) (length c.args.pixels.now) = record {
      whole = count ∙ ap (λ n. n * view.w) (sym at);
      within = omega (arith, at, c.requires.within);
      few = omega (arith, at, c.requires.within, h, c.self-inside.invariant.h);
    } in
    band-painted laws view list c.args.row rows c.root-image.result c.args.pixels.now c.args.pixels.now (c.root-image.ensures ∙ ap (λ s. root_box_of s.view Raster) c.self.view_is)
    count c.requires.within some
    (unmet view _ (length c.args.pixels.now) c.root-image.result (byte_at view list c.args.row) c.args.pixels.now is_band refl (sym c.meets.ensures ∙ c.if-not-meets.true))

pub returns : goal.returns
returns c =
    let view = c.args.self.now.view in
    let w = ap (λ s. s.view.w) c.self-inside.view_is ∙ ap (λ s. s.view.w) c.self.view_is in
    let some : 0 < view.w = omega (arith, w, c.self-inside.invariant.w.some) in
    let parts = div-add-mod' (length c.args.pixels.now) view.w in
    band-painted laws view c.args.self.now.list c.args.row (length c.args.pixels.now / view.w) c.root-image.result c.args.pixels.now c.paint_box.new.pixels (c.root-image.ensures ∙ ap (λ s. root_box_of s.view Raster) c.self.view_is)
    (omega (arith, parts, c.requires.whole)) c.requires.within some c.paint_box.ensures

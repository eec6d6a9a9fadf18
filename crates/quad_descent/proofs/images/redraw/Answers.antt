-- Where the lists are equal each box is the one before, and takes nothing.
use Rattle.std.proofs.Common.{◌≡◌, ap, sym, subst, ◌∙◌, arith}
use Rattle.quad_descent.specs.Raster.{frame_points, frame_spans, raster, raster_root}
use Rattle.std.specs.Prelude.{Some}
use Rattle.view_places.specs.Boxes.{IsBox}
use Rattle.view_places.specs.Spans.{root_box_of}
use Rattle.view_places.specs.declared.lattice.Lattice.TheVariants.{Raster}
use Rattle.box_chains.proofs.Theorems.{laws}
use Rattle.quad_descent.proofs.DrawerLaws.{exactly-same}
use Rattle.quad_descent.proofs.images.redraw.Goals as goal

pub returns-then-same-clause-counted : goal.returns-then-same-clause-counted
returns-then-same-clause-counted c =
    let view = c.args.old.view in
    let box = subst (λ v. IsBox (root_box_of v Raster)) c.view.ensures c.image_holds.ensures.box in
    let same : c.args.old.list ≡ c.args.list.now = sym c.list.ensures ∙ c.same.ensures.0 c.if-same.true in
    let points : frame_points view (Some c.args.old.list) c.args.list.now ≡ 0 = ap (λ l. frame_points view (Some l) c.args.list.now) same ∙ laws.redrawn.old_points (raster view) (raster_root view c.args.list.now) (omega arith) box in
    let spans : frame_spans view (Some c.args.old.list) c.args.list.now ≡ 0 = ap (λ l. frame_spans view (Some l) c.args.list.now) same ∙ laws.redrawn.old_spans (raster view) (raster_root view c.args.list.now) (omega arith) box in
    exactly-same c.args.tally.now c.args.tally.now 0 0 _ _ (sym points) (sym spans) (laws.work.none c.args.tally.now)

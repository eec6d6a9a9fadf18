use Rattle.std.proofs.Common.{ap, arith, subst, sym, ◌∙◌}
use Rattle.std.specs.Prelude.{Some}
use Rattle.box_chains.proofs.Theorems.{laws}
use Rattle.box_chains.specs.Tallied.{CountsAtMost}
use Rattle.quad_descent.specs.KeptLists.{lists_of}
use Rattle.quad_descent.specs.Raster.{Drawing, frame_points, frame_spans, raster, raster_root}
use Rattle.quad_descent.proofs.DrawerLaws.{on_err}
use Rattle.quad_descent.proofs.OldTrees.{root-stands}
use Rattle.quad_descent.proofs.images.draw_after.Goals as goal

pub returns-in_err-desk-clause-at_most : goal.returns-in_err-desk-clause-at_most
returns-in_err-desk-clause-at_most c = on_err _ _ (laws.bounds.none c.args.tally.now _ _)

pub returns-in_err-boxes-clause-at_most : goal.returns-in_err-boxes-clause-at_most
returns-in_err-boxes-clause-at_most c = on_err _ _ (laws.bounds.none c.args.tally.now _ _)

pub returns-in_err-share-clause-at_most : goal.returns-in_err-share-clause-at_most
returns-in_err-share-clause-at_most c = on_err _ _ (laws.bounds.none c.args.tally.now _ _)

pub draw_boxes-requires-clause-old : goal.draw_boxes-requires-clause-old
draw_boxes-requires-clause-old c =
    root-stands c.picture.inside.view _ c.picture.inside.list (ap Some c.in_ok-share.ensures) (c.deref.ensures.value ∙ c.picture.invariant.0)
    (c.new-2.ensures ∙ c.old.invariant.0 ∙ ap (λ (p : Drawing). lists_of (raster p.view) (raster_root p.view p.list)) (sym c.picture.view_is))

pub returns-in_err-boxes-2-clause-at_most : goal.returns-in_err-boxes-2-clause-at_most
returns-in_err-boxes-2-clause-at_most c =
    let list = c.args.list.now in
    on_err _ _ (subst (λ (p : Drawing). CountsAtMost (frame_points p.view (Some p.list) list) (frame_spans p.view (Some p.list) list) c.args.tally.now c.draw_boxes.new.tally) (c.picture.view_is ∙ c.old.view_is)
    (subst (λ r. CountsAtMost (frame_points c.picture.inside.view r list) (frame_spans c.picture.inside.view r list) c.args.tally.now c.draw_boxes.new.tally) (ap Some c.in_ok-share.ensures)
    c.in_err-boxes-2.ensures.at_most))

pub returns-clause-at_most : goal.returns-clause-at_most
returns-clause-at_most c =
    let list = c.args.list.now in
    on_err _ _ (subst (λ (p : Drawing). CountsAtMost (frame_points p.view (Some p.list) list) (frame_spans p.view (Some p.list) list) c.args.tally.now c.draw_boxes.new.tally) (c.picture.view_is ∙ c.old.view_is)
    (subst (λ r. CountsAtMost (frame_points c.picture.inside.view r list) (frame_spans c.picture.inside.view r list) c.args.tally.now c.draw_boxes.new.tally) (ap Some c.in_ok-share.ensures)
    (laws.bounds.exact c.args.tally.now c.draw_boxes.new.tally _ _ _ _ (omega arith) (omega arith) c.in_ok-boxes-2.ensures.counted)))

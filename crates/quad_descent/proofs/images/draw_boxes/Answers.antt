use Rattle.std.proofs.Common.{[], ◌∷◌, ap, arith, subst, ◌∙◌}
use Rattle.std.specs.Prelude.{Some}
use Rattle.box_chains.specs.Desks.{Tracing, list_of}
use Rattle.box_chains.specs.Tallied.{CountsAtMost, CountsExactly}
use Rattle.box_descent.specs.Looked.{looked}
use Rattle.view_places.specs.Window.{IsWindow}
use Rattle.quad_descent.specs.Drawers.{draw_plan}
use Rattle.quad_descent.proofs.DrawerLaws.{drawings_are_lawful, group-done, group-stops, on_err, root-box, root-work}
use Rattle.quad_descent.proofs.images.draw_boxes.Goals as goal

pub descend-requires-clause-laws : goal.descend-requires-clause-laws
descend-requires-clause-laws c = drawings_are_lawful

pub returns-in_err-descend-clause-at_most : goal.returns-in_err-descend-clause-at_most
returns-in_err-descend-clause-at_most c =
    let desk = c.args.desk.now in
    let view = c.args.view.now in
    let list = c.args.list.now in
    let root = c.root-root.result in
    let boxes = root-box view desk list root (subst IsWindow c.view.view_is c.view.invariant) c.requires.desk c.root-root.ensures in
    on_err _ _ (root-work (λ p s. CountsAtMost p s c.args.tally.now c.descend.new.tally) view list desk root c.args.drawer.before.received c.requires.desk c.root-root.ensures
    (group-stops (looked draw_plan desk) (list_of desk 0) c.args.drawer c.descend.new.visitor (root ∷ []) c.args.tally.now c.descend.new.tally (omega arith) boxes
    (λ same. c.requires.new (same ∙ ap (λ (e : Tracing). Some (list_of e 0)) c.requires.desk)) c.in_err-descend.ensures.halted))

pub returns-clause-counted : goal.returns-clause-counted
returns-clause-counted c =
    let desk = c.args.desk.now in
    let view = c.args.view.now in
    let list = c.args.list.now in
    let root = c.root-root.result in
    let boxes = root-box view desk list root (subst IsWindow c.view.view_is c.view.invariant) c.requires.desk c.root-root.ensures in
    root-work (λ p s. CountsExactly p s c.args.tally.now c.descend.new.tally) view list desk root c.args.drawer.before.received c.requires.desk c.root-root.ensures
    (group-done (looked draw_plan desk) (list_of desk 0) c.args.drawer c.descend.new.visitor (root ∷ []) c.args.tally.now c.descend.new.tally (omega arith) boxes
    (λ same. c.requires.new (same ∙ ap (λ (e : Tracing). Some (list_of e 0)) c.requires.desk)) c.in_ok-descend.ensures.drawn).counted

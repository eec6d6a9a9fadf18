use Rattle.std.proofs.Common.{ap, ◌∙◌}
use Rattle.std.specs.Prelude.{Some}
use Rattle.box_chains.specs.Chains.{visit}
use Rattle.box_chains.specs.Desks.{Tracing, list_of}
use Rattle.box_descent.specs.Looked.{looked}
use Rattle.quad_descent.specs.Drawers.{draw_plan}
use Rattle.quad_descent.proofs.DrawerLaws.{halts-none, old-drawn, on_err, there-next}
use Rattle.quad_descent.proofs.drawing.DrawerVisitor.open.Goals as goal

pub move_to-requires : goal.move_to-requires
move_to-requires c = there-next _ c.args.self.now _ c.args.b c.requires.next.0 c.requires.next.1 c.requires.may.visit_is.box

pub returns-in_err-move_to-clause-halted : goal.returns-in_err-move_to-clause-halted
returns-in_err-move_to-clause-halted c = on_err _ _ (halts-none (looked draw_plan c.args.desk.now) c.args.self.now c.args.self.now (visit c.args.b (list_of c.args.desk.now c.args.given)))

pub returns-then-handed_on-clause-done : goal.returns-then-handed_on-clause-done
returns-then-handed_on-clause-done c =
    let desk = c.args.desk.now in
    let v = visit c.args.b (list_of desk c.args.given) in
    let handed = c.handed_on.ensures.0 c.if-handed_on.true ∙ ap Some (c.list.ensures.list ∙ ap (λ (t : Tracing). list_of t c.args.pruned) c.desk.view_is ∙ c.requires.pruned.is) in
    λ tally. old-drawn (looked draw_plan desk) c.args.self.now _ v c.requires.next.0 tally c.requires.next.1 c.requires.may.visit_is.box c.requires.long handed c.in_ok-move_to.ensures.adds c.in_ok-move_to.ensures.behind c.move_to.ensures.received

pub returns-in_err-received-clause-halted : goal.returns-in_err-received-clause-halted
returns-in_err-received-clause-halted c = on_err _ _ (halts-none (looked draw_plan c.args.desk.now) c.args.self.now c.args.self.now (visit c.args.b (list_of c.args.desk.now c.args.given)))

pub open-received_before-requires : goal.open-received_before-requires
open-received_before-requires c = there-next _ c.args.self.now _ c.args.b c.requires.next.0 c.requires.next.1 c.requires.may.visit_is.box

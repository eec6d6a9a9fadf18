use Rattle.std.proofs.Common.{arith, subst}
use Rattle.box_chains.specs.Chains.{visit}
use Rattle.box_chains.specs.Desks.{list_of}
use Rattle.box_descent.specs.Founds.{IsFound}
use Rattle.box_descent.specs.Looked.{looked}
use Rattle.quad_descent.specs.Drawers.{DrawsSome, draw_plan}
use Rattle.std.proofs.Common.{sym}
use Rattle.box_chains.specs.Chains.{is_long}
use Rattle.std.specs.Prelude.{None}
use Rattle.std.proofs.Common.{◌≡◌, refl}
use Rattle.box_descent.specs.Founds.{child_tape}
use Rattle.quad_descent.proofs.DrawerLaws.{IsLeaf, leaf-drawn, leaf-short, leaf-some}
use Rattle.quad_descent.proofs.DrawerLaws.{decided-drawn, found-outside, halts-none, on_err, on_ok-then, there-next}
use Rattle.std.proofs.Common.{true, false}
use Rattle.quad_descent.proofs.drawing.DrawerVisitor.visit.Goals as goal

pub give_up-requires : goal.give_up-requires
give_up-requires c = there-next _ c.args.self.now _ c.args.b c.requires.next.0 c.requires.next.1 c.requires.may.visit_is.box

pub returns-in-Inside-clause-drawn : goal.returns-in-Inside-clause-drawn
returns-in-Inside-clause-drawn c =
    let right = subst (IsFound draw_plan c.args.desk.now c.args.b c.args.given) c.in-Inside.is c.requires.found in
    on_ok-then _ _ _ (λ adds. decided-drawn _ c.args.self.now _ (visit c.args.b (list_of c.args.desk.now c.args.given)) c.requires.next.0 true c.args.tally.now c.requires.next.1 c.requires.may.visit_is.box (omega arith) right.0
    adds c.give_up.ensures.behind c.give_up.ensures.received) c.push.ensures

pub returns-in-Inside-clause-halted : goal.returns-in-Inside-clause-halted
returns-in-Inside-clause-halted c = on_err _ _ (halts-none (looked draw_plan c.args.desk.now) c.args.self.now c.args.self.now (visit c.args.b (list_of c.args.desk.now c.args.given)) c.args.tally.now)

pub returns-in-Outside-clause-drawn : goal.returns-in-Outside-clause-drawn
returns-in-Outside-clause-drawn c =
    on_ok-then _ _ _ (λ adds. decided-drawn _ c.args.self.now _ (visit c.args.b (list_of c.args.desk.now c.args.given)) c.requires.next.0 false c.args.tally.now c.requires.next.1 c.requires.may.visit_is.box (omega arith)
    (found-outside c.args.desk.now c.args.b c.args.given c.args.found c.in-Outside.is c.requires.found) adds c.give_up.ensures.behind c.give_up.ensures.received) c.push-in-Outside.ensures

pub returns-in-Outside-clause-halted : goal.returns-in-Outside-clause-halted
returns-in-Outside-clause-halted c = on_err _ _ (halts-none (looked draw_plan c.args.desk.now) c.args.self.now c.args.self.now (visit c.args.b (list_of c.args.desk.now c.args.given)) c.args.tally.now)

pub returns-in_err-rows-in-Ambiguous-clause-halted : goal.returns-in_err-rows-in-Ambiguous-clause-halted
returns-in_err-rows-in-Ambiguous-clause-halted c =
    let d = looked draw_plan c.args.desk.now in
    let s = c.args.self.now in
    let v = visit c.args.b (list_of c.args.desk.now c.args.given) in
    on_err _ _ (subst (λ k. DrawsSome d s s v c.args.tally.now k) (sym c.in_err-rows-in-Ambiguous.ensures.none) (halts-none d s s v c.args.tally.now))

pub returns-in_ok-rows-in-Ambiguous-clause-drawn : goal.returns-in_ok-rows-in-Ambiguous-clause-drawn
returns-in_ok-rows-in-Ambiguous-clause-drawn c =
    let desk = c.args.desk.now in
    let d = looked draw_plan desk in
    let s = c.args.self.now in
    let v = visit c.args.b (list_of desk c.args.given) in
    let right = subst (IsFound draw_plan desk c.args.b c.args.given) c.in-Ambiguous.is c.requires.found in
    let short = leaf-short (is_long 8 c.args.b) c.in-Ambiguous.pruned (subst (λ f. child_tape draw_plan desk c.args.b f ≡ None) c.in-Ambiguous.is c.requires.end) in
    let leaf : IsLeaf d v (list_of desk c.in-Ambiguous.pruned) = record { visit_is = c.requires.may.visit_is; undecided = right.0; short = short; live_is = right.1.0.is } in
    on_ok-then _ _ _ (λ adds. leaf-drawn d s _ v c.requires.next.0 (list_of desk c.in-Ambiguous.pruned) _ c.args.tally.now _ refl c.requires.next.1 leaf c.in_ok-rows-in-Ambiguous.ensures.counted c.in_ok-rows-in-Ambiguous.ensures.rows
    adds c.give_up.ensures.behind c.give_up.ensures.received) c.push-in-Ambiguous.ensures

pub returns-in_ok-rows-in-Ambiguous-clause-halted : goal.returns-in_ok-rows-in-Ambiguous-clause-halted
returns-in_ok-rows-in-Ambiguous-clause-halted c =
    let desk = c.args.desk.now in
    let d = looked draw_plan desk in
    let s = c.args.self.now in
    let v = visit c.args.b (list_of desk c.args.given) in
    let right = subst (IsFound draw_plan desk c.args.b c.args.given) c.in-Ambiguous.is c.requires.found in
    let short = leaf-short (is_long 8 c.args.b) c.in-Ambiguous.pruned (subst (λ f. child_tape draw_plan desk c.args.b f ≡ None) c.in-Ambiguous.is c.requires.end) in
    let leaf : IsLeaf d v (list_of desk c.in-Ambiguous.pruned) = record { visit_is = c.requires.may.visit_is; undecided = right.0; short = short; live_is = right.1.0.is } in
    on_err _ _ (leaf-some d s s v c.requires.next.0 (list_of desk c.in-Ambiguous.pruned) c.args.tally.now _ refl c.requires.next.1 leaf c.in_ok-rows-in-Ambiguous.ensures.counted)

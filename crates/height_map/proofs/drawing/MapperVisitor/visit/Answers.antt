use Rattle.std.proofs.Common.{◌≡◌, List, ◌∙◌, Some, None, true, false, ap, length, refl, subst, sym}
use Rattle.std.specs.Vec.{with_items}
use Rattle.std.proofs.lemmas.List.{with_items_is}
use Rattle.box_chains.proofs.Theorems.{laws}
use Rattle.box_chains.specs.Chains.{Descent, handed_on, is_long, visit}
use Rattle.box_chains.specs.Desks.{list_of}
use Rattle.box_chains.specs.Opened.{outcome_spans}
use Rattle.box_chains.specs.Sums.{sum_in}
use Rattle.box_chains.specs.Tallied.{CountsAtMost}
use Rattle.box_chains.specs.Visits.{IsVisit}
use Rattle.box_chains.specs.declared.outcome.Outcome.TheVariants.{Inside as AllInside, Outside as AllOutside, Open}
use Rattle.box_descent.specs.Founds.{IsFound, child_tape}
use Rattle.box_descent.specs.Looked.{looked}
use Rattle.fixed_ops.specs.Counts.{RisesBy, points_of}
use Rattle.height_map.specs.Bound.{layered}
use Rattle.height_map.specs.Columns.{Changes, covers, leaf_cost, leaf_top, lifted}
use Rattle.height_map.specs.Mappers.{map_plan, told_of}
use Rattle.height_map.specs.Opened.{outcome_points, outcome_top}
use Rattle.height_map.proofs.ChangeLaws.{Changes-none}
use Rattle.height_map.proofs.MapperLaws.{decided-drawn, draws-of, found-outside, leaf-drawn, leaf-short, on_err-then, on_ok-both, told-decided}
use Rattle.height_map.proofs.drawing.MapperVisitor.visit.Goals as goal

pub returns-in-Inside-clause-drawn : goal.returns-in-Inside-clause-drawn
returns-in-Inside-clause-drawn c =
    let desk = c.args.desk.now in
    let d = looked map_plan desk in
    let b = c.args.b in
    let s = c.args.self.now in
    let v = visit b (list_of desk c.args.given) in
    let right = subst (IsFound map_plan desk b c.args.given) c.in-Inside.is c.requires.found in
    let lifts = subst (λ w. Changes (covers w b) (λ p. lifted b.z1) c.deref_mut.result.now c.lift.new.tops) c.w.ensures c.lift.ensures in
    draws-of d s _ v AllInside c.args.tally.now c.args.tally.now (told-decided d v (Some true) right.0)
    (decided-drawn desk.view s.tops.items (with_items s.tops c.lift.new.tops).items b AllInside c.args.tally.now refl refl
    (subst (λ ys. Changes (covers desk.view.w b) (outcome_top desk.view b AllInside) s.tops.items ys)
    (sym (with_items_is s.tops c.lift.new.tops (lifts.same ∙ ap length c.deref_mut.ensures.value ∙ sym (s.tops.ok.0))))
    (subst (λ xs. Changes (covers desk.view.w b) (outcome_top desk.view b AllInside) xs c.lift.new.tops) c.deref_mut.ensures.value lifts)))

pub returns-in-Outside-clause-drawn : goal.returns-in-Outside-clause-drawn
returns-in-Outside-clause-drawn c =
    let desk = c.args.desk.now in
    let d = looked map_plan desk in
    let b = c.args.b in
    let s = c.args.self.now in
    let v = visit b (list_of desk c.args.given) in
    let right = found-outside desk b c.args.given c.args.found c.in-Outside.is c.requires.found in
    draws-of d s s v AllOutside c.args.tally.now c.args.tally.now (told-decided d v (Some false) right)
    (decided-drawn desk.view s.tops.items s.tops.items b AllOutside c.args.tally.now refl refl
    (Changes-none (covers desk.view.w b) (outcome_top desk.view b AllOutside) s.tops.items (λ p within covered. refl)))

pub draw_by-requires-clause-may : goal.draw_by-requires-clause-may
draw_by-requires-clause-may c =
    let desk = c.args.desk.now in
    let s = c.args.self.now in
    let can = c.requires.next.1.can in
    let right = subst (IsFound map_plan desk c.args.b c.args.given) c.in-Ambiguous.is c.requires.found in
    let gives = right.1.0.may in
    record {
      lattice = ap (λ (e : Descent). e.lattice) can.layers;
      visit_is = subst (λ (e : Descent). IsVisit e (visit c.args.b (list_of desk c.in-Ambiguous.pruned))) can.layers gives.visit_is;
      tops = ap length c.deref_mut-in-Ambiguous.ensures.value ∙ can.tops;
      among = gives.among;
      room = gives.room;
    }

pub draw_by-requires-clause-short : goal.draw_by-requires-clause-short
draw_by-requires-clause-short c =
    leaf-short (is_long 8 c.args.b) c.in-Ambiguous.pruned (subst (λ f. child_tape map_plan c.args.desk.now c.args.b f ≡ None) c.in-Ambiguous.is c.requires.end)

pub returns-in-Ambiguous-clause-drawn : goal.returns-in-Ambiguous-clause-drawn
returns-in-Ambiguous-clause-drawn c =
    let desk = c.args.desk.now in
    let d = looked map_plan desk in
    let b = c.args.b in
    let s = c.args.self.now in
    let old = s.tops.items in
    let v = visit b (list_of desk c.args.given) in
    let right = subst (IsFound map_plan desk b c.args.given) c.in-Ambiguous.is c.requires.found in
    let short = leaf-short (is_long 8 b) c.in-Ambiguous.pruned (subst (λ f. child_tape map_plan desk b f ≡ None) c.in-Ambiguous.is c.requires.end) in
    let live = handed_on d v in
    on_ok-both c.draw_by.result _ _ _
    (λ tops counted.
    let drawn = subst (λ (l : List _). Changes (covers desk.view.w b) (leaf_top desk.view l b) c.deref_mut-in-Ambiguous.result.now c.draw_by.new.tops) right.1.0.is tops in
    let work = subst (λ (l : List _). RisesBy c.args.tally.now c.draw_by.new.tally (points_of (sum_in b (leaf_cost desk.view l b c.deref_mut-in-Ambiguous.result.now)))) right.1.0.is counted in
    draws-of d s _ v (Open live) c.args.tally.now c.draw_by.new.tally (told-decided d v None right.0)
    (leaf-drawn desk.view live old (with_items s.tops c.draw_by.new.tops).items b c.args.tally.now c.draw_by.new.tally short
    (subst (λ ys. Changes (covers desk.view.w b) (leaf_top desk.view live b) old ys)
    (sym (with_items_is s.tops c.draw_by.new.tops (drawn.same ∙ ap length c.deref_mut-in-Ambiguous.ensures.value ∙ sym (s.tops.ok.0))))
    (subst (λ xs. Changes (covers desk.view.w b) (leaf_top desk.view live b) xs c.draw_by.new.tops) c.deref_mut-in-Ambiguous.ensures.value drawn))
    (subst (λ xs. RisesBy c.args.tally.now c.draw_by.new.tally (points_of (sum_in b (leaf_cost desk.view live b xs)))) c.deref_mut-in-Ambiguous.ensures.value work)))
    c.draw_by.ensures.tops c.draw_by.ensures.counted

pub returns-in-Ambiguous-clause-halted : goal.returns-in-Ambiguous-clause-halted
returns-in-Ambiguous-clause-halted c =
    let desk = c.args.desk.now in
    let d = looked map_plan desk in
    let v = visit c.args.b (list_of desk c.args.given) in
    let old = c.args.self.now.tops.items in
    on_err-then c.draw_by.result _ _
    (λ same. subst (λ k. CountsAtMost (outcome_points desk.view old v.box (told_of d v)) (outcome_spans (layered desk.view) v.box (told_of d v)) c.args.tally.now k) (sym same)
    (laws.bounds.none c.args.tally.now (outcome_points desk.view old v.box (told_of d v)) (outcome_spans (layered desk.view) v.box (told_of d v))))
    c.draw_by.ensures.none

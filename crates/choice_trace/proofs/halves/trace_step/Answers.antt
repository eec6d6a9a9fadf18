use Rattle.std.proofs.Common.{◌≡◌, ◌∙◌, ◌<◌, ap, arith, length, subst, sym}
use Rattle.fixed_ops.specs.Arity.{arity_of}
use Rattle.fixed_ops.specs.declared.operation.Op.{Op}
use Rattle.fixed_ops.specs.declared.operation.Op.TheVariants.{Min, Max}
use Rattle.interval_ops.specs.Choices.{choice_of}
use Rattle.interval_ops.specs.Hulls.{hull_of}
use Rattle.live_clauses.specs.Choices.{choice_in}
use Rattle.choice_trace.specs.Halves.{region_of, row_in}
use Rattle.choice_trace.specs.Hulls.{hull_in, step_hull}
use Rattle.choice_trace.proofs.HalfRows.{lane_of_rows}
use Rattle.choice_trace.proofs.halves.trace_step.Goals as goal

pub returns-in-Min-clause-hulls : goal.returns-in-Min-clause-hulls
returns-in-Min-clause-hulls g c = λ l h.
    let step = c.args.step.now in
    let rows = c.args.earlier.now in
    let first : step.a < length rows = c.requires.first (subst (λ (o : Op). 0 < arity_of o) (sym c.in-Min.is) (omega arith)) in
    let second : step.b < length rows = c.requires.second (subst (λ (o : Op). 1 < arity_of o) (sym c.in-Min.is) (omega arith)) in
    let made : hull_in c.chosen_row.new.hulls l ≡ hull_of Min (hull_in c.index-earlier-a-in-Min.result l) (hull_in c.index-earlier-b-in-Min.result l) = c.chosen_row.ensures.hulls l h in
    let read = lane_of_rows (hull_of Min) rows step.a step.b l c.index-earlier-a-in-Min.result c.index-earlier-b-in-Min.result first second c.index-earlier-a-in-Min.is c.index-earlier-b-in-Min.is in
    let same = ap (λ (o : Op). step_hull o (region_of c.args.inputs.now l) step.value (hull_in (row_in rows step.a) l) (hull_in (row_in rows step.b) l)) (sym c.in-Min.is) in
    made ∙ read ∙ same

pub returns-in-Min-clause-choices : goal.returns-in-Min-clause-choices
returns-in-Min-clause-choices g c = λ l h.
    let step = c.args.step.now in
    let rows = c.args.earlier.now in
    let first : step.a < length rows = c.requires.first (subst (λ (o : Op). 0 < arity_of o) (sym c.in-Min.is) (omega arith)) in
    let second : step.b < length rows = c.requires.second (subst (λ (o : Op). 1 < arity_of o) (sym c.in-Min.is) (omega arith)) in
    let made : choice_in c.chosen_row.result l ≡ choice_of Min (hull_in c.index-earlier-a-in-Min.result l) (hull_in c.index-earlier-b-in-Min.result l) = c.chosen_row.ensures.choices l h in
    let read = lane_of_rows (choice_of Min) rows step.a step.b l c.index-earlier-a-in-Min.result c.index-earlier-b-in-Min.result first second c.index-earlier-a-in-Min.is c.index-earlier-b-in-Min.is in
    let same = ap (λ (o : Op). choice_of o (hull_in (row_in rows step.a) l) (hull_in (row_in rows step.b) l)) (sym c.in-Min.is) in
    made ∙ read ∙ same

pub returns-in-Max-clause-hulls : goal.returns-in-Max-clause-hulls
returns-in-Max-clause-hulls g c = λ l h.
    let step = c.args.step.now in
    let rows = c.args.earlier.now in
    let first : step.a < length rows = c.requires.first (subst (λ (o : Op). 0 < arity_of o) (sym c.in-Max.is) (omega arith)) in
    let second : step.b < length rows = c.requires.second (subst (λ (o : Op). 1 < arity_of o) (sym c.in-Max.is) (omega arith)) in
    let made : hull_in c.chosen_row-in-Max.new.hulls l ≡ hull_of Max (hull_in c.index-earlier-a-in-Max.result l) (hull_in c.index-earlier-b-in-Max.result l) = c.chosen_row-in-Max.ensures.hulls l h in
    let read = lane_of_rows (hull_of Max) rows step.a step.b l c.index-earlier-a-in-Max.result c.index-earlier-b-in-Max.result first second c.index-earlier-a-in-Max.is c.index-earlier-b-in-Max.is in
    let same = ap (λ (o : Op). step_hull o (region_of c.args.inputs.now l) step.value (hull_in (row_in rows step.a) l) (hull_in (row_in rows step.b) l)) (sym c.in-Max.is) in
    made ∙ read ∙ same

pub returns-in-Max-clause-choices : goal.returns-in-Max-clause-choices
returns-in-Max-clause-choices g c = λ l h.
    let step = c.args.step.now in
    let rows = c.args.earlier.now in
    let first : step.a < length rows = c.requires.first (subst (λ (o : Op). 0 < arity_of o) (sym c.in-Max.is) (omega arith)) in
    let second : step.b < length rows = c.requires.second (subst (λ (o : Op). 1 < arity_of o) (sym c.in-Max.is) (omega arith)) in
    let made : choice_in c.chosen_row-in-Max.result l ≡ choice_of Max (hull_in c.index-earlier-a-in-Max.result l) (hull_in c.index-earlier-b-in-Max.result l) = c.chosen_row-in-Max.ensures.choices l h in
    let read = lane_of_rows (choice_of Max) rows step.a step.b l c.index-earlier-a-in-Max.result c.index-earlier-b-in-Max.result first second c.index-earlier-a-in-Max.is c.index-earlier-b-in-Max.is in
    let same = ap (λ (o : Op). choice_of o (hull_in (row_in rows step.a) l) (hull_in (row_in rows step.b) l)) (sym c.in-Max.is) in
    made ∙ read ∙ same

use Rattle.std.proofs.Common.{[], ap, arith, length, subst, sym, ◌∙◌}
use Rattle.std.specs.Prelude.{OnOk}
use Rattle.box_chains.specs.Chains.{visit}
use Rattle.box_chains.specs.Desks.{list_of}
use Rattle.box_chains.specs.Visits.{IsVisit}
use Rattle.kuhn_cells.specs.Sizes.{SameSize}
use Rattle.oct_descent.specs.Adding.{Adds}
use Rattle.oct_descent.specs.AfterDesks.{AreWorkedAfter, ChargesBelowAfter, PaysBoxAfter, long_spans_below_after}
use Rattle.oct_descent.specs.Bound.{CountsHullsAtLeast}
use Rattle.oct_descent.specs.GridValues.{list_grid_value}
use Rattle.oct_descent.specs.KeptBoxes.{places_of}
use Rattle.oct_descent.specs.OldBoxes.{visit_before}
use Rattle.view_places.specs.Window.{size_of}
use Rattle.oct_descent.specs.Ways.{gridded}
use Rattle.oct_descent.proofs.Added.{adds-none, adds-same}
use Rattle.oct_descent.proofs.AfterLooks.{below-charged_after, below-traced_after, cell-traced_after, trace-charged_after}
use Rattle.oct_descent.proofs.AfterPaid.{below-paid_after, cell-paid_after, look-paid_after, worked-after}
use Rattle.oct_descent.proofs.Before.{cell-after, left-cell}
use Rattle.oct_descent.proofs.Kept.{places-cell}
use Rattle.oct_descent.proofs.Looks.{on_ok, on_ok-then}
use Rattle.oct_descent.proofs.Together.{among-stays, list-stays}
use Rattle.oct_descent.specs.Known.{AreRight, AreSettled, Grows}
use Rattle.oct_descent.specs.Kinds.{known_of}
use Rattle.box_chains.proofs.Theorems.{laws}
use Rattle.oct_descent.proofs.descent.look_into.Goals as goal

pub returns-then-not-is_long-clause-traced : goal.returns-then-not-is_long-clause-traced
returns-then-not-is_long-clause-traced c =
    let view = c.args.desk.now.view in
    let v = visit c.args.b (list_of c.args.desk.now c.args.received) in
    let was = visit_before c.args.before c.args.b in
    on_ok c.look_into_cell.result _
    (cell-traced_after laws (gridded view) was v (known_of c.args.values.now) (known_of c.look_into_cell.new.values) c.args.tally.now c.look_into_cell.new.tally (omega arith) c.requires.may.visit_is.box c.requires.new (sym c.is_long.ensures ∙ c.if-not-is_long.true) c.look_into_cell.ensures.paid)

pub returns-then-not-is_long-clause-adds : goal.returns-then-not-is_long-clause-adds
returns-then-not-is_long-clause-adds c =
    let view = c.args.desk.now.view in
    let v = visit c.args.b (list_of c.args.desk.now c.args.received) in
    let was = visit_before c.args.before c.args.b in
    on_ok c.look_into_cell.result _
    (adds-same c.args.boxes.now c.args.boxes.now [] (places_of (gridded view) v) (sym (places-cell laws (gridded view) v (omega arith) c.requires.may.visit_is.box (sym c.is_long.ensures ∙ c.if-not-is_long.true))) (adds-none c.args.boxes.now))

pub returns-then-not-is_long-clause-left : goal.returns-then-not-is_long-clause-left
returns-then-not-is_long-clause-left c =
    on_ok c.look_into_cell.result _ (left-cell laws c.args.desk.now.view c.args.b c.args.boxes.now.before c.args.before c.requires.may.visit_is.box (sym c.is_long.ensures ∙ c.if-not-is_long.true))

pub returns-then-not-is_long-clause-counted : goal.returns-then-not-is_long-clause-counted
returns-then-not-is_long-clause-counted c =
    let view = c.args.desk.now.view in
    let v = visit c.args.b (list_of c.args.desk.now c.args.received) in
    let was = visit_before c.args.before c.args.b in
    cell-after laws view was v (known_of c.args.values.now) (known_of c.look_into_cell.new.values) c.args.tally.now c.look_into_cell.new.tally c.requires.may.visit_is.box (sym c.is_long.ensures ∙ c.if-not-is_long.true) c.requires.new c.look_into_cell.ensures.counted

pub returns-in_err-told-clause-counted : goal.returns-in_err-told-clause-counted
returns-in_err-told-clause-counted c =
    let view = c.args.desk.now.view in
    let v = visit c.args.b (list_of c.args.desk.now c.args.received) in
    let was = visit_before c.args.before c.args.b in
    trace-charged_after laws (gridded view) was v (known_of c.args.values.now) c.args.tally.now c.trace_asked_box.new.tally (omega arith) c.requires.may.visit_is.box c.requires.new c.trace_asked_box.ensures.counted

pub returns-in_err-told-clause-paid : goal.returns-in_err-told-clause-paid
returns-in_err-told-clause-paid c =
    let view = c.args.desk.now.view in
    let v = visit c.args.b (list_of c.args.desk.now c.args.received) in
    let was = visit_before c.args.before c.args.b in
    look-paid_after (gridded view) was v (known_of c.args.values.now) c.args.tally.now c.trace_asked_box.new.tally
    (laws.bounds.hulls c.args.tally.now c.trace_asked_box.new.tally (length (list_of c.args.desk.now c.args.received)) c.trace_asked_box.ensures.counted)

pub returns-clause-counted : goal.returns-clause-counted
returns-clause-counted c =
    let view = c.args.desk.now.view in
    let v = visit c.args.b (list_of c.args.desk.now c.args.received) in
    let was = visit_before c.args.before c.args.b in
    below-charged_after laws view was v (known_of c.args.values.now) (known_of c.look_into_told.new.values) c.args.tally.now c.trace_asked_box.new.tally c.look_into_told.new.tally
    c.requires.may.visit_is.box c.requires.new (sym c.is_long.ensures ∙ c.if-not-is_long.false) c.trace_asked_box.ensures.counted
    (subst (λ w. ChargesBelowAfter (gridded w) (visit_before c.args.before c.args.b) (visit c.args.b (list_of c.args.desk.now c.args.received)) (known_of c.args.values.now) (known_of c.look_into_told.new.values) c.trace_asked_box.new.tally c.look_into_told.new.tally) c.in_ok-told.ensures.more.view (subst (λ l. ChargesBelowAfter (gridded c.trace_asked_box.new.self.view) (visit_before c.args.before c.args.b) (visit c.args.b l) (known_of c.args.values.now) (known_of c.look_into_told.new.values) c.trace_asked_box.new.tally c.look_into_told.new.tally) (list-stays c.args.desk.now c.trace_asked_box.new.self c.args.received c.in_ok-told.ensures.more c.requires.may.among) c.look_into_told.ensures.counted))

pub returns-clause-paid : goal.returns-clause-paid
returns-clause-paid c =
    let view = c.args.desk.now.view in
    let v = visit c.args.b (list_of c.args.desk.now c.args.received) in
    let was = visit_before c.args.before c.args.b in
    below-paid_after laws (gridded view) was v (known_of c.args.values.now) (known_of c.look_into_told.new.values) c.args.tally.now c.trace_asked_box.new.tally c.look_into_told.new.tally
    c.trace_asked_box.ensures.counted
    (subst (λ w. PaysBoxAfter (gridded w) (visit_before c.args.before c.args.b) (visit c.args.b (list_of c.args.desk.now c.args.received)) (known_of c.args.values.now) (known_of c.look_into_told.new.values) c.trace_asked_box.new.tally c.look_into_told.new.tally) c.in_ok-told.ensures.more.view (subst (λ l. PaysBoxAfter (gridded c.trace_asked_box.new.self.view) (visit_before c.args.before c.args.b) (visit c.args.b l) (known_of c.args.values.now) (known_of c.look_into_told.new.values) c.trace_asked_box.new.tally c.look_into_told.new.tally) (list-stays c.args.desk.now c.trace_asked_box.new.self c.args.received c.in_ok-told.ensures.more c.requires.may.among) c.look_into_told.ensures.paid))

pub returns-clause-traced : goal.returns-clause-traced
returns-clause-traced c =
    let view = c.args.desk.now.view in
    let v = visit c.args.b (list_of c.args.desk.now c.args.received) in
    let was = visit_before c.args.before c.args.b in
    on_ok-then c.look_into_told.result _ _
    (below-traced_after laws view was v c.args.tally.now c.trace_asked_box.new.tally c.look_into_told.new.tally (sym c.is_long.ensures ∙ c.if-not-is_long.false) c.trace_asked_box.ensures.counted)
    (subst (λ w. OnOk c.look_into_told.result (CountsHullsAtLeast (long_spans_below_after (gridded w) (visit_before c.args.before c.args.b) (visit c.args.b (list_of c.args.desk.now c.args.received))) c.trace_asked_box.new.tally c.look_into_told.new.tally)) c.in_ok-told.ensures.more.view (subst (λ l. OnOk c.look_into_told.result (CountsHullsAtLeast (long_spans_below_after (gridded c.trace_asked_box.new.self.view) (visit_before c.args.before c.args.b) (visit c.args.b l)) c.trace_asked_box.new.tally c.look_into_told.new.tally)) (list-stays c.args.desk.now c.trace_asked_box.new.self c.args.received c.in_ok-told.ensures.more c.requires.may.among) c.look_into_told.ensures.traced))

pub returns-clause-settled : goal.returns-clause-settled
returns-clause-settled c =
    (subst (λ w. OnOk c.look_into_told.result (AreSettled (gridded w) (list_grid_value w (list_of c.args.desk.now c.args.received)) c.args.b (known_of c.look_into_told.new.values))) c.in_ok-told.ensures.more.view (subst (λ l. OnOk c.look_into_told.result (AreSettled (gridded c.trace_asked_box.new.self.view) (list_grid_value c.trace_asked_box.new.self.view l) c.args.b (known_of c.look_into_told.new.values))) (list-stays c.args.desk.now c.trace_asked_box.new.self c.args.received c.in_ok-told.ensures.more c.requires.may.among) c.look_into_told.ensures.settled))

pub returns-clause-worked : goal.returns-clause-worked
returns-clause-worked c =
    (subst (λ w. OnOk c.look_into_told.result (AreWorkedAfter (gridded w) (visit_before c.args.before c.args.b) (visit c.args.b (list_of c.args.desk.now c.args.received)) (known_of c.look_into_told.new.values))) c.in_ok-told.ensures.more.view (subst (λ l. OnOk c.look_into_told.result (AreWorkedAfter (gridded c.trace_asked_box.new.self.view) (visit_before c.args.before c.args.b) (visit c.args.b l) (known_of c.look_into_told.new.values))) (list-stays c.args.desk.now c.trace_asked_box.new.self c.args.received c.in_ok-told.ensures.more c.requires.may.among) c.look_into_told.ensures.worked))

pub returns-clause-grows : goal.returns-clause-grows
returns-clause-grows c =
    (subst (λ w. Grows (list_grid_value w (list_of c.args.desk.now c.args.received)) c.args.b (known_of c.args.values.now) (known_of c.look_into_told.new.values)) c.in_ok-told.ensures.more.view (subst (λ l. Grows (list_grid_value c.trace_asked_box.new.self.view l) c.args.b (known_of c.args.values.now) (known_of c.look_into_told.new.values)) (list-stays c.args.desk.now c.trace_asked_box.new.self c.args.received c.in_ok-told.ensures.more c.requires.may.among) c.look_into_told.ensures.grows))

pub returns-clause-adds : goal.returns-clause-adds
returns-clause-adds c =
    (subst (λ w. OnOk c.look_into_told.result (Adds c.args.boxes.now c.look_into_told.new.boxes (places_of (gridded w) (visit c.args.b (list_of c.args.desk.now c.args.received))))) c.in_ok-told.ensures.more.view (subst (λ l. OnOk c.look_into_told.result (Adds c.args.boxes.now c.look_into_told.new.boxes (places_of (gridded c.trace_asked_box.new.self.view) (visit c.args.b l)))) (list-stays c.args.desk.now c.trace_asked_box.new.self c.args.received c.in_ok-told.ensures.more c.requires.may.among) c.look_into_told.ensures.adds))

pub look_into_told-requires-clause-may : goal.look_into_told-requires-clause-may
look_into_told-requires-clause-may c =
    let same = list-stays c.args.desk.now c.trace_asked_box.new.self c.args.received c.in_ok-told.ensures.more c.requires.may.among in
    let view = c.in_ok-told.ensures.more.view in
    let may = c.requires.may in
    record {
      lattice = c.in_ok-told.ensures.more.lattice ∙ may.lattice;
      visit_is = subst (λ l. IsVisit (gridded c.trace_asked_box.new.self.view).boxes (visit c.args.b l)) (sym same) (subst (λ w. IsVisit (gridded w).boxes (visit c.args.b (list_of c.args.desk.now c.args.received))) (sym view) may.visit_is);
      n = subst (λ w. SameSize c.args.values.now.n (size_of w)) (sym view) may.n;
      among = among-stays c.args.desk.now c.trace_asked_box.new.self c.args.received c.in_ok-told.ensures.more may.among;
      room = omega (arith, c.in_ok-told.ensures.more.room, may.room, ap length same);
      right = subst (λ l. AreRight (list_grid_value c.trace_asked_box.new.self.view l) c.args.b (known_of c.args.values.now)) (sym same) (subst (λ w. AreRight (list_grid_value w (list_of c.args.desk.now c.args.received)) c.args.b (known_of c.args.values.now)) (sym view) may.right);
    }

pub returns-then-not-is_long-clause-worked : goal.returns-then-not-is_long-clause-worked
returns-then-not-is_long-clause-worked c =
    let view = c.args.desk.now.view in
    let v = visit c.args.b (list_of c.args.desk.now c.args.received) in
    let was = visit_before c.args.before c.args.b in
    on_ok-then c.look_into_cell.result _ _ (worked-after (gridded view) was v (known_of c.look_into_cell.new.values)) c.look_into_cell.ensures.worked

pub returns-then-not-is_long-clause-paid : goal.returns-then-not-is_long-clause-paid
returns-then-not-is_long-clause-paid c =
    let view = c.args.desk.now.view in
    let v = visit c.args.b (list_of c.args.desk.now c.args.received) in
    let was = visit_before c.args.before c.args.b in
    cell-paid_after laws (gridded view) was v (known_of c.args.values.now) (known_of c.look_into_cell.new.values) c.args.tally.now c.look_into_cell.new.tally (omega arith) c.requires.may.visit_is.box c.requires.new
    (sym c.is_long.ensures ∙ c.if-not-is_long.true) c.look_into_cell.ensures.paid

use Rattle.std.proofs.Common.{ap, subst, sym, ◌∙◌}
use Rattle.box_chains.specs.Chains.{Descent, visit}
use Rattle.box_chains.specs.Desks.{list_of}
use Rattle.box_chains.specs.Visits.{IsVisit}
use Rattle.box_descent.proofs.Descents.{on_err}
use Rattle.box_descent.specs.Looked.{looked}
use Rattle.std.proofs.lemmas.List.Elements.{All-head}
use Rattle.oct_descent.specs.Known.{AreRight}
use Rattle.contour_lines.specs.Fillers.{fill_plan}
use Rattle.contour_lines.specs.Tables.{known_of}
use Rattle.contour_lines.specs.Ways.{flat_value}
use Rattle.contour_lines.proofs.EndLaws.{cell-filled, cell-some, closed-filled, end-closed, on_ok-both}
use Rattle.contour_lines.proofs.cell_filler.CellFillerVisitor.visit.Goals as goal

pub returns-then-is_long-clause-drawn : goal.returns-then-is_long-clause-drawn
returns-then-is_long-clause-drawn c =
    let desk = c.args.desk.now in
    let boxes = c.requires.next.1.can.boxes in
    closed-filled (looked fill_plan desk) c.args.self.now (visit c.args.b (list_of desk c.args.given)) c.args.tally.now boxes c.requires.may.visit_is
    (end-closed desk c.args.b c.args.given c.args.found boxes (sym c.is_long.ensures ∙ c.if-is_long.true) c.requires.found c.requires.end)

pub look_into_cell-requires-clause-may : goal.look_into_cell-requires-clause-may
look_into_cell-requires-clause-may c =
    let desk = c.args.desk.now in
    let fits = c.requires.next.1 in
    record {
      lattice = ap (λ (d : Descent). d.lattice) fits.can.boxes;
      visit_is = subst (λ (d : Descent). IsVisit d (visit c.args.b (list_of desk c.args.given))) fits.can.boxes c.requires.may.visit_is;
      n = fits.can.n;
      among = c.requires.may.among;
      room = c.requires.may.room;
      right = All-head (λ b. AreRight (flat_value desk.view (list_of desk c.args.given)) b (known_of c.args.self.now.values)) c.args.b c.requires.next.0 fits.right;
    }

pub returns-clause-drawn : goal.returns-clause-drawn
returns-clause-drawn c =
    let desk = c.args.desk.now in
    let d = looked fill_plan desk in
    let v = visit c.args.b (list_of desk c.args.given) in
    let done = c.look_into_cell.ensures in
    let short = sym c.is_long.ensures ∙ c.if-is_long.false in
    let some = cell-some d c.args.self.now (record { values = c.look_into_cell.new.values }) v c.args.tally.now c.look_into_cell.new.tally short done.grows done.counted done.paid in
    on_ok-both c.look_into_cell.result _ _ _
    (λ settled worked. cell-filled d c.args.self.now (record { values = c.look_into_cell.new.values }) v c.args.tally.now c.look_into_cell.new.tally c.requires.may.visit_is.box short some settled worked)
    done.settled done.worked

pub returns-clause-halted : goal.returns-clause-halted
returns-clause-halted c =
    let desk = c.args.desk.now in
    let done = c.look_into_cell.ensures in
    on_err c.look_into_cell.result _
    (cell-some (looked fill_plan desk) c.args.self.now (record { values = c.look_into_cell.new.values }) (visit c.args.b (list_of desk c.args.given)) c.args.tally.now c.look_into_cell.new.tally (sym c.is_long.ensures ∙ c.if-is_long.false) done.grows done.counted done.paid)

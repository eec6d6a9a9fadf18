-- The tables that are found are those of the grid over the view.
use Rattle.std.proofs.Common.{sym, subst}
use Rattle.std.proofs.lemmas.Result.{IfOk-weaker}
use Rattle.live_clauses.specs.Steps.{tape_value}
use Rattle.plane_loops.specs.Closed.{IsClosedContour}
use Rattle.plane_loops.specs.Contours.{IsContour}
use Rattle.plane_loops.specs.Tables.{AreTables}
use Rattle.plane_loops.proofs.Closing.{contours_are_closed}
use Rattle.contour_lines.specs.PlaneGrids.{plane_over}
use Rattle.contour_lines.proofs.Joins.{tables_are}
use Rattle.contour_lines.proofs.contours.contour.Goals as goal

pub link_loops-requires-clause-tables : goal.link_loops-requires-clause-tables
link_loops-requires-clause-tables c =
    let view = c.args.view.now in
    let list = c.args.list.now in
    let grid = plane_over view (λ p. tape_value p list) in
    let values = c.in_ok-table.table.values.items in
    let signs = c.in_ok-table.table.signs.items in
    let tables = tables_are view list c.requires.square values signs c.in_ok-table.ensures.signs c.in_ok-table.ensures.corners in (
      grid,
      subst (λ n. AreTables n grid c.deref.result.now c.deref-2.result.now) (sym c.in_ok-table.ensures.n)
          (subst (λ v. AreTables view.nx grid v c.deref-2.result.now) (sym c.deref.ensures.value)
          (subst (λ s. AreTables view.nx grid values s) (sym c.deref-2.ensures.value) tables)),
    )

pub returns-clause-contour : goal.returns-clause-contour
returns-clause-contour c =
    let view = c.args.view.now in
    let list = c.args.list.now in
    let grid = plane_over view (λ p. tape_value p list) in
    let values = c.in_ok-table.table.values.items in
    let signs = c.in_ok-table.table.signs.items in
    let tables = tables_are view list c.requires.square values signs c.in_ok-table.ensures.signs c.in_ok-table.ensures.corners in
    c.link_loops.ensures grid (subst (λ n. AreTables n grid c.deref.result.now c.deref-2.result.now) (sym c.in_ok-table.ensures.n)
    (subst (λ v. AreTables view.nx grid v c.deref-2.result.now) (sym c.deref.ensures.value)
    (subst (λ s. AreTables view.nx grid values s) (sym c.deref-2.ensures.value) tables)))

pub returns-clause-closed : goal.returns-clause-closed
returns-clause-closed c =
    let view = c.args.view.now in
    let list = c.args.list.now in
    let grid = plane_over view (λ p. tape_value p list) in
    let values = c.in_ok-table.table.values.items in
    let signs = c.in_ok-table.table.signs.items in
    let tables = tables_are view list c.requires.square values signs c.in_ok-table.ensures.signs c.in_ok-table.ensures.corners in
    let found = c.link_loops.ensures grid (subst (λ n. AreTables n grid c.deref.result.now c.deref-2.result.now) (sym c.in_ok-table.ensures.n)
    (subst (λ v. AreTables view.nx grid v c.deref-2.result.now) (sym c.deref.ensures.value)
    (subst (λ s. AreTables view.nx grid values s) (sym c.deref-2.ensures.value) tables))) in
    IfOk-weaker c.link_loops.result (IsContour grid) (IsClosedContour grid) (λ loops contour. contours_are_closed grid loops tables.border contour) found

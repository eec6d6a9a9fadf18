use Rattle.std.proofs.Common.{ap, arith, length, refl, subst, sym, ◌∙◌}
use Rattle.box_chains.specs.Chains.{visit}
use Rattle.box_chains.specs.Desks.{Tracing, list_of}
use Rattle.kuhn_cells.specs.Triangles.{further, point}
use Rattle.oct_descent.specs.Corners.{IsShown}
use Rattle.oct_descent.specs.GridValues.{list_grid_value}
use Rattle.oct_descent.specs.Tables.{is_known, known_at}
use Rattle.oct_descent.specs.Ways.{gridded}
use Rattle.oct_descent.proofs.Corners.{all-known, short-one}
use Rattle.oct_descent.proofs.Looks.{box-cell, cell-charged, cell-paid, closed-settled, closed-worked, corners-untraced, known-settled, left-untraced, look-charged, look-paid, on_ok-then, shown-sides}
use Rattle.oct_descent.proofs.TableLaws.{charges-none, known-worked, pays-none}
use Rattle.oct_descent.specs.Known.{ChargesCorners, PaysCorners}
use Rattle.oct_descent.specs.Kinds.{known_of, mesh}
use Rattle.oct_descent.proofs.Covered.{mesh_holds}
use Rattle.box_chains.proofs.Theorems.{laws}
use Rattle.oct_descent.proofs.descent.look_into_cell.Goals as goal

pub returns-then-seen-clause-settled : goal.returns-then-seen-clause-settled
returns-then-seen-clause-settled c =
    let b = c.args.b in
    known-settled mesh mesh_holds c.args.desk.now.view (list_grid_value c.args.desk.now.view (list_of c.args.desk.now c.args.received)) b (known_of c.args.values.now)
    (all-known b c.args.values.now (short-one b c.requires.may.visit_is.box c.requires.one)
    (λ k less. ap (λ i. is_known (known_at c.args.values.now (further (point i.x0 i.y0 i.z0) k))) (sym c.b.view_is) ∙ c.seen-seen.ensures.all c.if-seen.true k less))

pub returns-then-seen-clause-counted : goal.returns-then-seen-clause-counted
returns-then-seen-clause-counted c f enough = charges-none laws f _ (known_of c.args.values.now) c.args.tally.now

pub returns-then-not-is_working-clause-settled : goal.returns-then-not-is_working-clause-settled
returns-then-not-is_working-clause-settled c =
    closed-settled laws mesh mesh_holds c.args.desk.now.view (visit c.args.b (list_of c.args.desk.now c.args.received)) (known_of c.args.values.now) c.requires.may.visit_is (sym c.is_working.ensures.open ∙ c.if-not-is_working.true)

pub returns-then-not-is_working-clause-counted : goal.returns-then-not-is_working-clause-counted
returns-then-not-is_working-clause-counted c =
    look-charged laws (gridded c.args.desk.now.view) (visit c.args.b (list_of c.args.desk.now c.args.received)) (known_of c.args.values.now) c.args.tally.now c.is_working.new.tally (omega arith) c.requires.may.visit_is.box
    c.is_working.ensures.counted

pub returns-clause-counted : goal.returns-clause-counted
returns-clause-counted c =
    cell-charged laws mesh c.args.desk.now.view (visit c.args.b (list_of c.args.desk.now c.args.received)) c.args.b (known_of c.args.values.now) (known_of c.fill_cell.new.values) c.args.tally.now c.is_working.new.tally c.fill_cell.new.tally c.requires.may.visit_is
    (sym c.is_working.ensures.open ∙ c.if-not-is_working.false) c.requires.one (box-cell c.args.b c.requires.may.visit_is.box c.requires.one) c.is_working.ensures.counted (subst (λ (d : Tracing). ChargesCorners c.args.b (length (list_of d c.args.received)) (known_of c.args.values.now) (known_of c.fill_cell.new.values) c.is_working.new.tally c.fill_cell.new.tally) c.is_working.ensures.kept c.fill_cell.ensures.counted)

pub returns-then-seen-clause-worked : goal.returns-then-seen-clause-worked
returns-then-seen-clause-worked c =
    let b = c.args.b in
    known-worked mesh mesh_holds c.args.desk.now.view (visit b (list_of c.args.desk.now c.args.received)) (known_of c.args.values.now)
    (all-known b c.args.values.now (short-one b c.requires.may.visit_is.box c.requires.one)
    (λ k less. ap (λ i. is_known (known_at c.args.values.now (further (point i.x0 i.y0 i.z0) k))) (sym c.b.view_is) ∙ c.seen-seen.ensures.all c.if-seen.true k less))

pub returns-then-seen-clause-paid : goal.returns-then-seen-clause-paid
returns-then-seen-clause-paid c f due = pays-none laws f (known_of c.args.values.now) c.args.tally.now

pub returns-then-not-is_working-clause-worked : goal.returns-then-not-is_working-clause-worked
returns-then-not-is_working-clause-worked c =
    closed-worked mesh c.args.desk.now.view (visit c.args.b (list_of c.args.desk.now c.args.received)) (known_of c.args.values.now) c.requires.may.visit_is (sym c.is_working.ensures.open ∙ c.if-not-is_working.true)

pub returns-then-not-is_working-clause-paid : goal.returns-then-not-is_working-clause-paid
returns-then-not-is_working-clause-paid c =
    look-paid (gridded c.args.desk.now.view) (visit c.args.b (list_of c.args.desk.now c.args.received)) (known_of c.args.values.now) c.args.tally.now c.is_working.new.tally c.is_working.ensures.counted

pub returns-clause-worked : goal.returns-clause-worked
returns-clause-worked c =
    on_ok-then c.fill_cell.result _ _ (known-worked mesh mesh_holds c.args.desk.now.view (visit c.args.b (list_of c.args.desk.now c.args.received)) (known_of c.fill_cell.new.values)) c.fill_cell.ensures.known

pub returns-clause-paid : goal.returns-clause-paid
returns-clause-paid c =
    cell-paid laws mesh c.args.desk.now.view (visit c.args.b (list_of c.args.desk.now c.args.received)) c.args.b (known_of c.args.values.now) (known_of c.fill_cell.new.values) c.args.tally.now c.is_working.new.tally c.fill_cell.new.tally c.requires.may.visit_is
    (sym c.is_working.ensures.open ∙ c.if-not-is_working.false) c.requires.one (box-cell c.args.b c.requires.may.visit_is.box c.requires.one) c.is_working.ensures.counted (subst (λ (d : Tracing). PaysCorners c.args.b (length (list_of d c.args.received)) (known_of c.args.values.now) (known_of c.fill_cell.new.values) c.is_working.new.tally c.fill_cell.new.tally) c.is_working.ensures.kept c.fill_cell.ensures.paid)

pub returns-then-seen-clause-untraced : goal.returns-then-seen-clause-untraced
returns-then-seen-clause-untraced c shown = left-untraced laws c.args.tally.now c.args.tally.now refl

pub returns-then-not-is_working-clause-untraced : goal.returns-then-not-is_working-clause-untraced
returns-then-not-is_working-clause-untraced c shown =
    let sides = shown-sides c.args.values.now _ c.seen-seen.result c.seen-seen.ensures c.if-seen.false (subst (λ i. IsShown c.args.values.now (point i.x0 i.y0 i.z0)) (sym c.b.view_is) shown) in
    left-untraced laws c.args.tally.now c.is_working.new.tally (c.is_working.ensures.untraced sides.0 sides.1)

pub returns-clause-untraced : goal.returns-clause-untraced
returns-clause-untraced c shown =
    let sides = shown-sides c.args.values.now _ c.seen-seen.result c.seen-seen.ensures c.if-seen.false (subst (λ i. IsShown c.args.values.now (point i.x0 i.y0 i.z0)) (sym c.b.view_is) shown) in
    corners-untraced c.args.b (length (list_of c.args.desk.now c.args.received)) (known_of c.args.values.now) (known_of c.fill_cell.new.values) c.args.tally.now c.is_working.new.tally c.fill_cell.new.tally (c.is_working.ensures.untraced sides.0 sides.1) (subst (λ (d : Tracing). ChargesCorners c.args.b (length (list_of d c.args.received)) (known_of c.args.values.now) (known_of c.fill_cell.new.values) c.is_working.new.tally c.fill_cell.new.tally) c.is_working.ensures.kept c.fill_cell.ensures.counted)

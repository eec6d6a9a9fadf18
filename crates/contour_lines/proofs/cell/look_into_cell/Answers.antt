use Rattle.std.proofs.Common.{ap, arith, length, refl, subst, sym, ◌∙◌}
use Rattle.box_chains.specs.Chains.{visit}
use Rattle.box_chains.specs.Desks.{Tracing, list_of}
use Rattle.kuhn_cells.specs.Triangles.{further, point}
use Rattle.oct_descent.specs.Tables.{is_known}
use Rattle.oct_descent.specs.Known.{ChargesCorners, PaysCorners}
use Rattle.oct_descent.proofs.Looks.{corners-untraced, left-untraced, on_ok-then}
use Rattle.contour_lines.specs.Corners.{IsShown}
use Rattle.contour_lines.specs.Tables.{known_at, known_of}
use Rattle.contour_lines.specs.Ways.{flat_value, floor_of, planar}
use Rattle.contour_lines.proofs.Corners.{all-known, floor-square, low-is}
use Rattle.contour_lines.proofs.Looks.{known-settled, known-worked, shown-sides}
use Rattle.oct_descent.proofs.Corners.{short-one}
use Rattle.box_chains.proofs.Theorems.{laws}
use Rattle.contour_lines.proofs.Theorems.{planes}
use Rattle.contour_lines.proofs.cell.look_into_cell.Goals as goal

pub returns-then-seen-clause-settled : goal.returns-then-seen-clause-settled
returns-then-seen-clause-settled c =
    let b = c.args.b in
    let may = c.requires.may in
    let low = low-is c.args.desk.now.view b may.visit_is.box may.visit_is.within c.requires.flat c.requires.one in
    known-settled c.args.desk.now.view (flat_value c.args.desk.now.view (list_of c.args.desk.now c.args.received)) b (known_of c.args.values.now) low.one
    (all-known b (known_of c.args.values.now) low
    (λ k less. ap (λ i. is_known (known_at c.args.values.now (further (point i.x0 i.y0 0) k))) (sym c.b.view_is) ∙ c.seen-seen.ensures.all c.if-seen.true k less))

pub returns-then-seen-clause-worked : goal.returns-then-seen-clause-worked
returns-then-seen-clause-worked c =
    let b = c.args.b in
    let may = c.requires.may in
    let low = low-is c.args.desk.now.view b may.visit_is.box may.visit_is.within c.requires.flat c.requires.one in
    known-worked c.args.desk.now.view (visit b (list_of c.args.desk.now c.args.received)) (known_of c.args.values.now) low.one
    (all-known b (known_of c.args.values.now) low
    (λ k less. ap (λ i. is_known (known_at c.args.values.now (further (point i.x0 i.y0 0) k))) (sym c.b.view_is) ∙ c.seen-seen.ensures.all c.if-seen.true k less))

pub returns-then-seen-clause-grows : goal.returns-then-seen-clause-grows
returns-then-seen-clause-grows c = planes.growth.none (flat_value c.args.desk.now.view (list_of c.args.desk.now c.args.received)) c.args.b (known_of c.args.values.now)

pub returns-then-seen-clause-counted : goal.returns-then-seen-clause-counted
returns-then-seen-clause-counted c f enough = planes.work.free f _ (known_of c.args.values.now) c.args.tally.now

pub returns-then-seen-clause-paid : goal.returns-then-seen-clause-paid
returns-then-seen-clause-paid c f due = planes.work.unpaid f (known_of c.args.values.now) c.args.tally.now

pub returns-then-not-is_working-clause-settled : goal.returns-then-not-is_working-clause-settled
returns-then-not-is_working-clause-settled c =
    planes.looks.settled c.args.desk.now.view (visit c.args.b (list_of c.args.desk.now c.args.received)) (known_of c.args.values.now) c.requires.may.visit_is (sym c.is_working.ensures.open ∙ c.if-not-is_working.true)

pub returns-then-not-is_working-clause-worked : goal.returns-then-not-is_working-clause-worked
returns-then-not-is_working-clause-worked c =
    planes.looks.idle c.args.desk.now.view (visit c.args.b (list_of c.args.desk.now c.args.received)) (known_of c.args.values.now) c.requires.may.visit_is (sym c.is_working.ensures.open ∙ c.if-not-is_working.true)

pub returns-then-not-is_working-clause-grows : goal.returns-then-not-is_working-clause-grows
returns-then-not-is_working-clause-grows c = planes.growth.none (flat_value c.args.desk.now.view (list_of c.args.desk.now c.args.received)) c.args.b (known_of c.args.values.now)

pub returns-then-not-is_working-clause-counted : goal.returns-then-not-is_working-clause-counted
returns-then-not-is_working-clause-counted c =
    planes.looks.looked (planar c.args.desk.now.view) (visit c.args.b (list_of c.args.desk.now c.args.received)) (known_of c.args.values.now) c.args.tally.now c.is_working.new.tally (omega arith) c.requires.may.visit_is.box
    c.is_working.ensures.counted

pub returns-then-not-is_working-clause-paid : goal.returns-then-not-is_working-clause-paid
returns-then-not-is_working-clause-paid c =
    planes.looks.unpaid (planar c.args.desk.now.view) (visit c.args.b (list_of c.args.desk.now c.args.received)) (known_of c.args.values.now) c.args.tally.now c.is_working.new.tally c.is_working.ensures.counted

pub returns-clause-settled : goal.returns-clause-settled
returns-clause-settled c =
    on_ok-then c.fill_cell.result _ _ (known-settled c.args.desk.now.view (flat_value c.args.desk.now.view (list_of c.args.desk.now c.args.received)) c.args.b (known_of c.fill_cell.new.values) (short-one c.args.b c.requires.may.visit_is.box c.requires.one)) c.fill_cell.ensures.known

pub returns-clause-worked : goal.returns-clause-worked
returns-clause-worked c =
    on_ok-then c.fill_cell.result _ _ (known-worked c.args.desk.now.view (visit c.args.b (list_of c.args.desk.now c.args.received)) (known_of c.fill_cell.new.values) (short-one c.args.b c.requires.may.visit_is.box c.requires.one)) c.fill_cell.ensures.known

pub returns-clause-counted : goal.returns-clause-counted
returns-clause-counted c =
    planes.looks.cell_charged c.args.desk.now.view (visit c.args.b (list_of c.args.desk.now c.args.received)) (floor_of c.args.b) (known_of c.args.values.now) (known_of c.fill_cell.new.values) c.args.tally.now c.is_working.new.tally c.fill_cell.new.tally c.requires.may.visit_is
    (sym c.is_working.ensures.open ∙ c.if-not-is_working.false) c.requires.one
    (λ p covers. floor-square c.args.b p (short-one c.args.b c.requires.may.visit_is.box c.requires.one) covers) c.is_working.ensures.counted
    (subst (λ (d : Tracing). ChargesCorners (floor_of c.args.b) (length (list_of d c.args.received)) (known_of c.args.values.now) (known_of c.fill_cell.new.values) c.is_working.new.tally c.fill_cell.new.tally) c.is_working.ensures.kept c.fill_cell.ensures.counted)

pub returns-clause-paid : goal.returns-clause-paid
returns-clause-paid c =
    planes.looks.cell_paid c.args.desk.now.view (visit c.args.b (list_of c.args.desk.now c.args.received)) (floor_of c.args.b) (known_of c.args.values.now) (known_of c.fill_cell.new.values) c.args.tally.now c.is_working.new.tally c.fill_cell.new.tally c.requires.may.visit_is
    (sym c.is_working.ensures.open ∙ c.if-not-is_working.false) c.requires.one
    (λ p covers. floor-square c.args.b p (short-one c.args.b c.requires.may.visit_is.box c.requires.one) covers) c.is_working.ensures.counted
    (subst (λ (d : Tracing). PaysCorners (floor_of c.args.b) (length (list_of d c.args.received)) (known_of c.args.values.now) (known_of c.fill_cell.new.values) c.is_working.new.tally c.fill_cell.new.tally) c.is_working.ensures.kept c.fill_cell.ensures.paid)

pub returns-then-seen-clause-untraced : goal.returns-then-seen-clause-untraced
returns-then-seen-clause-untraced c shown = left-untraced laws c.args.tally.now c.args.tally.now refl

pub returns-then-not-is_working-clause-untraced : goal.returns-then-not-is_working-clause-untraced
returns-then-not-is_working-clause-untraced c shown =
    let sides = shown-sides (known_of c.args.values.now) _ c.seen-seen.result c.seen-seen.ensures c.if-seen.false (subst (λ i. IsShown (known_of c.args.values.now) (point i.x0 i.y0 0)) (sym c.b.view_is) shown) in
    left-untraced laws c.args.tally.now c.is_working.new.tally (c.is_working.ensures.untraced sides.0 sides.1)

pub returns-clause-untraced : goal.returns-clause-untraced
returns-clause-untraced c shown =
    let sides = shown-sides (known_of c.args.values.now) _ c.seen-seen.result c.seen-seen.ensures c.if-seen.false (subst (λ i. IsShown (known_of c.args.values.now) (point i.x0 i.y0 0)) (sym c.b.view_is) shown) in
    corners-untraced (floor_of c.args.b) (length (list_of c.args.desk.now c.args.received)) (known_of c.args.values.now) (known_of c.fill_cell.new.values) c.args.tally.now c.is_working.new.tally c.fill_cell.new.tally (c.is_working.ensures.untraced sides.0 sides.1) (subst (λ (d : Tracing). ChargesCorners (floor_of c.args.b) (length (list_of d c.args.received)) (known_of c.args.values.now) (known_of c.fill_cell.new.values) c.is_working.new.tally c.fill_cell.new.tally) c.is_working.ensures.kept c.fill_cell.ensures.counted)

-- After a grid of this very view, after one of another view, and after none.
use Rattle.std.proofs.Common.{◌≡◌, true, false, ap, subst, sym, ◌∙◌}
use Rattle.std.specs.Prelude.{OnOk, Some, None, if◌then◌else◌}
use Rattle.view_places.specs.Window.{same_view}
use Rattle.model_frames.specs.Meshes.{grid_before}
use Rattle.model_frames.specs.Work.{CountsWithin, CountsWork, grid_work}
use Rattle.model_frames.proofs.MeshesAfter.{fresh-counted, fresh-within, same-counted, same-within}
use Rattle.model_frames.proofs.remeshed.look_after.Goals as goal

pub returns-then-is_same-clause-counted : goal.returns-then-is_same-clause-counted
returns-then-is_same-clause-counted c =
    let view = c.args.view.now in
    let list = c.args.list.now in
    let tree = c.in-Some.tree in
    let test = subst (λ v. same_view v view ≡ true) c.view.ensures (sym c.is_same.ensures.test ∙ c.if-is_same.true) in
    subst (λ b. OnOk c.recells.result (CountsWork c.args.tally.now c.recells.new.tally (grid_work (grid_before b view) view list 0))) (sym c.in-Some.is)
    (same-counted c.recells.result c.args.tally.now c.recells.new.tally tree view list test (sym c.view.ensures ∙ c.is_same.ensures.same c.if-is_same.true) c.recells.ensures.at_most
    c.recells.ensures.at_least c.recells.ensures.traced)

pub returns-then-is_same-clause-at_most : goal.returns-then-is_same-clause-at_most
returns-then-is_same-clause-at_most c =
    let view = c.args.view.now in
    let list = c.args.list.now in
    let tree = c.in-Some.tree in
    let test = subst (λ v. same_view v view ≡ true) c.view.ensures (sym c.is_same.ensures.test ∙ c.if-is_same.true) in
    subst (λ b. CountsWithin c.args.tally.now c.recells.new.tally (grid_work (grid_before b view) view list 0)) (sym c.in-Some.is)
    (same-within c.args.tally.now c.recells.new.tally tree view list test (sym c.view.ensures ∙ c.is_same.ensures.same c.if-is_same.true) c.recells.ensures.at_most)

pub returns-else-is_same-clause-counted : goal.returns-else-is_same-clause-counted
returns-else-is_same-clause-counted c =
    let view = c.args.view.now in
    let tree = c.in-Some.tree in
    let test = subst (λ v. same_view v view ≡ false) c.view.ensures (sym c.is_same.ensures.test ∙ c.if-is_same.false) in
    let none : grid_before c.args.before view ≡ None = ap (λ b. grid_before b view) c.in-Some.is ∙ ap (λ b. if b then Some tree.list else None) test in
    subst (λ l. OnOk c.cells.result (CountsWork c.args.tally.now c.cells.new.tally (grid_work l view c.args.list.now 0))) (sym none)
    (fresh-counted c.cells.result c.args.tally.now c.cells.new.tally view c.args.list.now 0 c.cells.ensures.at_most c.cells.ensures.at_least c.cells.ensures.traced)

pub returns-else-is_same-clause-at_most : goal.returns-else-is_same-clause-at_most
returns-else-is_same-clause-at_most c =
    let view = c.args.view.now in
    let tree = c.in-Some.tree in
    let test = subst (λ v. same_view v view ≡ false) c.view.ensures (sym c.is_same.ensures.test ∙ c.if-is_same.false) in
    let none : grid_before c.args.before view ≡ None = ap (λ b. grid_before b view) c.in-Some.is ∙ ap (λ b. if b then Some tree.list else None) test in
    subst (λ l. CountsWithin c.args.tally.now c.cells.new.tally (grid_work l view c.args.list.now 0)) (sym none)
    (fresh-within c.args.tally.now c.cells.new.tally view c.args.list.now 0 c.cells.ensures.at_most)

pub returns-in-None-clause-counted : goal.returns-in-None-clause-counted
returns-in-None-clause-counted c =
    let view = c.args.view.now in
    subst (λ b. OnOk c.cells-in-None.result (CountsWork c.args.tally.now c.cells-in-None.new.tally (grid_work (grid_before b view) view c.args.list.now 0))) (sym c.in-None.is)
    (fresh-counted c.cells-in-None.result c.args.tally.now c.cells-in-None.new.tally view c.args.list.now 0 c.cells-in-None.ensures.at_most c.cells-in-None.ensures.at_least
    c.cells-in-None.ensures.traced)

pub returns-in-None-clause-at_most : goal.returns-in-None-clause-at_most
returns-in-None-clause-at_most c =
    let view = c.args.view.now in
    subst (λ b. CountsWithin c.args.tally.now c.cells-in-None.new.tally (grid_work (grid_before b view) view c.args.list.now 0)) (sym c.in-None.is)
    (fresh-within c.args.tally.now c.cells-in-None.new.tally view c.args.list.now 0 c.cells-in-None.ensures.at_most)

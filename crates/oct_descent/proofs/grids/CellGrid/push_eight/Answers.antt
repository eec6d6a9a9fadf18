use Rattle.std.proofs.Common.{ℕ, List, ◌+◌, ◌++◌, append-nil, ap, arith, refl, subst, sym, ◌∙◌}
use Rattle.std.specs.Prelude.{min}
use Rattle.kuhn_cells.specs.Triangles.{point}
use Rattle.kuhn_cells.specs.declared.cell_list.CellValues.{CellValues}
use Rattle.kuhn_cells.specs.declared.grid_size.GridSize.{GridSize}
use Rattle.oct_descent.specs.Rows.{cells_at}
use Rattle.oct_descent.specs.Trees.{Gridding, IsTold}
use Rattle.oct_descent.proofs.Listed.{eight-none, next-part, row-none}
use Rattle.oct_descent.proofs.grids.CellGrid.push_eight.Goals as goal
use Rattle.oct_descent.proofs.grids.CellGrid.push_eight.Goals.{then-is_known+in_ok-push_cell, else-is_known}

pub returns-in_default : goal.returns-in_default
returns-in_default c =
    let d = c.args.self.now in
    let told = subst (λ (d : Gridding). IsTold d.view d.list c.self.inside.values) c.self.view_is c.self.invariant in
    sym (append-nil c.args.cells.now.items)
    ∙ ap (λ l. c.args.cells.now.items ++ l)
    (eight-none d.view d.list c.self.inside.values c.args.first (min d.view.nx (c.args.first + 8)) c.args.y c.args.z told c.requires.eighth (omega arith) (omega arith) c.requires.y c.requires.z
    (c.in_default.ensures.none refl))

pub loop-x-preserved : goal.loop-x-preserved
loop-x-preserved c =
    let d = c.args.self.now in
    let told = subst (λ (d : Gridding). IsTold d.view d.list c.self.inside.values) c.self.view_is c.self.invariant in
    let f : ℕ → List CellValues = λ x. cells_at d.view d.list (point x c.args.y c.args.z) in
    let n = ap (λ (s : GridSize). s.x) c.n.ensures.size in
    elim c.if-is_known.branch [
      | then-is_known+in_ok-push_cell w ↦
          next-part f c.args.first c.args.cells.now.items c.loop-x.cells.items c.if-is_known.cells.items c.loop-x.x (omega (arith, c.loop-x.auto.x)) c.loop-x.invariant (ap (λ v. v.items) w.cells-is ∙ w.in_ok-push_cell.ensures)
      | else-is_known w ↦
          next-part f c.args.first c.args.cells.now.items c.loop-x.cells.items c.if-is_known.cells.items c.loop-x.x (omega (arith, c.loop-x.auto.x)) c.loop-x.invariant
          (ap (λ v. v.items) w.cells-is ∙ sym (append-nil c.loop-x.cells.items)
          ∙ ap (λ l. c.loop-x.cells.items ++ l) (row-none d.view d.list c.self.inside.values c.args.first c.loop-x.x c.args.y c.args.z c.in-Some.start told c.in-Some.ensures.row (omega (arith, c.loop-x.auto.x))
          (omega (arith, c.loop-x-test.true, c.loop-x.auto.x-end, c.min-x-end.ensures)) (omega (arith, c.loop-x-test.true, c.min-x-end.ensures, n)) c.requires.y c.requires.z
          (sym c.is_known.ensures ∙ w.if-is_known.false)))
    ]

use Rattle.oct_descent.specs.Rows.{cells_in_row}
use Rattle.oct_descent.proofs.Listed.{next-front}
use Rattle.oct_descent.proofs.grids.CellGrid.push_layer.Goals as goal

pub loop-y-preserved : goal.loop-y-preserved
loop-y-preserved c =
    let d = c.args.self.now in
    next-front (λ y. cells_in_row d.view d.list y c.args.z) c.args.cells.now.items c.loop-y.cells.items c.push_row.new.cells.items c.loop-y.y c.loop-y.invariant c.in_ok-push_row.ensures

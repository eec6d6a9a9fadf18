use Rattle.std.proofs.Common.{◌*◌, ◌<◌, ap, arith}
use Rattle.kuhn_cells.specs.Triangles.{point}
use Rattle.kuhn_cells.specs.declared.grid_size.GridSize.{GridSize}
use Rattle.oct_descent.specs.Rows.{cells_at}
use Rattle.oct_descent.proofs.Listed.{next-eight}
use Rattle.oct_descent.proofs.grids.CellGrid.push_row.Goals as goal

pub loop-eighth-preserved : goal.loop-eighth-preserved
loop-eighth-preserved c =
    let d = c.args.self.now in
    let n = ap (λ (s : GridSize). s.x) c.n.ensures.size in
    let less : c.loop-eighth.eighth * 8 < d.view.nx = omega (arith, n, c.loop-eighth-test.true) in
    next-eight (λ x. cells_at d.view d.list (point x c.args.y c.args.z)) c.args.cells.now.items c.loop-eighth.cells.items c.push_eight.new.cells.items d.view.nx c.loop-eighth.eighth less c.loop-eighth.invariant
    c.in_ok-push_eight.ensures

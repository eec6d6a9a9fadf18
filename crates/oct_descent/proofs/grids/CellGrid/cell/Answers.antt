-- The corners of a mixed cell are known.
use Rattle.std.proofs.Common.{subst}
use Rattle.kuhn_cells.specs.Triangles.{point}
use Rattle.oct_descent.specs.Trees.{Gridding, IsTold}
use Rattle.oct_descent.proofs.Listed.{cell-found}
use Rattle.oct_descent.proofs.grids.CellGrid.cell.Goals as goal

pub returns : goal.returns
returns c =
    let d = c.args.self.now in
    let p = point c.args.x c.args.y c.args.z in
    let told = subst (λ (d : Gridding). IsTold d.view d.list c.self.inside.values) c.self.view_is c.self.invariant in
    let all = rw (c.from.ensures, c.from-2.ensures, c.from-3.ensures) at c.corners-known.ensures.all in
    let lacks = rw (c.from.ensures, c.from-2.ensures, c.from-3.ensures) at c.corners-known.ensures.lacks in
    rw c.unwrap_or-values.ensures (cell-found d.view d.list c.self.inside.values p c.corners-known.result _ told c.requires.x c.requires.y c.requires.z all lacks c.requires.mixed)

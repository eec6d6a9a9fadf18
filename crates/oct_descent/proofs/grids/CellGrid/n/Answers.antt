-- What is known of the points of a grid is bounded, and is of as many cells.
use Rattle.std.proofs.Common.{subst}
use Rattle.kuhn_cells.specs.Sizes.{IsBounded}
use Rattle.view_places.specs.Window.{size_of}
use Rattle.oct_descent.proofs.Sizes.{size-is}
use Rattle.oct_descent.proofs.grids.CellGrid.n.Goals as goal

pub returns-clause-bounded : goal.returns-clause-bounded
returns-clause-bounded c =
    let told = c.self.invariant in
    rw c.grid.ensures.size (subst IsBounded (size-is c.self.inside.values.n (size_of c.self.inside.view) told.n) told.few)

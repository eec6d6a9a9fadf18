use Rattle.std.proofs.Common.{ap, refl, subst, sym, ◌∙◌}
use Rattle.kuhn_cells.specs.Sizes.{IsBounded}
use Rattle.oct_descent.specs.KeptBoxes.{places_of}
use Rattle.oct_descent.specs.Trees.{Gridding}
use Rattle.oct_descent.specs.Ways.{grid_root, gridded}
use Rattle.view_places.specs.Window.{size_of}
use Rattle.oct_descent.proofs.Before.{root-stands}
use Rattle.oct_descent.proofs.Sizes.{size-is}
use Rattle.box_chains.proofs.Theorems.{laws}
use Rattle.oct_descent.proofs.oct_tree.look_into_after.Goals as goal

pub returns-in_err-desk-clause-at_most : goal.returns-in_err-desk-clause-at_most
returns-in_err-desk-clause-at_most c = laws.bounds.none c.args.tally.now _ _

pub look_into_all-requires-clause-old : goal.look_into_all-requires-clause-old
look_into_all-requires-clause-old c =
    root-stands c.grid.inside.view c.grid.inside.list c.grid.inside.values c.old.inside.boxes.items _ c.grid.invariant c.grid_holds.ensures.visit refl refl
    (c.old.invariant.0 ∙ ap (λ (g : Gridding). places_of (gridded g.view) (grid_root g.view g.list)) (sym c.grid.view_is))

-- the grid before was bounded, and this one has as many cells
pub look_into_all-requires-clause-bounded : goal.look_into_all-requires-clause-bounded
look_into_all-requires-clause-bounded c =
    let told = c.grid.invariant in
    subst IsBounded (size-is c.grid.inside.values.n (size_of c.grid.inside.view) told.n) told.few

use Rattle.box_chains.proofs.Theorems.{laws}
use Rattle.quad_descent.proofs.DrawerLaws.{on_err}
use Rattle.quad_descent.proofs.images.draw_fresh.Goals as goal

pub returns-in_err-desk-clause-at_most : goal.returns-in_err-desk-clause-at_most
returns-in_err-desk-clause-at_most c = on_err _ _ (laws.bounds.none c.args.tally.now _ _)

pub returns-in_err-boxes-clause-at_most : goal.returns-in_err-boxes-clause-at_most
returns-in_err-boxes-clause-at_most c = on_err _ _ (laws.bounds.none c.args.tally.now _ _)

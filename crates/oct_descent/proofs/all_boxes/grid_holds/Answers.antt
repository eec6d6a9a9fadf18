use Rattle.std.proofs.Common.{subst}
use Rattle.kuhn_cells.specs.Sizes.{IsBounded}
use Rattle.oct_descent.proofs.Bounds.{whole-visit}
use Rattle.oct_descent.proofs.all_boxes.grid_holds.Goals as goal

pub returns-clause-visit : goal.returns-clause-visit
returns-clause-visit c = whole-visit c.args.view.now c.args.list.now c.grid-n.ensures.window c.len-len.ensures.tape

pub returns-clause-bounded : goal.returns-clause-bounded
returns-clause-bounded c = λ fits. subst IsBounded c.grid-n.ensures.size (c.grid-n.ensures.bounded fits)

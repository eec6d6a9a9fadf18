-- The clauses are those from before.
use Rattle.solid_model.proofs.table.Table.insert.Goals as goal
use Rattle.std.proofs.Common.{sym, subst}
use Rattle.solid_model.specs.Clauses.{AreInOrder}

pub stand-requires-clause-in_order : goal.stand-requires-clause-in_order
stand-requires-clause-in_order c =
    subst AreInOrder (sym c.in-Ok.ensures.clauses) c.requires.in_order

-- The name of the clause at the place stands there.
use Rattle.std.proofs.Common.{subst}
use Rattle.solid_model.specs.Reversals.{AllowsBack}
use Rattle.solid_model.specs.Tables.{clauses_in}
use Rattle.solid_model.proofs.SurgeryLemmas.{place-there}
use Rattle.solid_model.proofs.table.Table.revert.Goals as goal

pub write-requires-clause-named : goal.write-requires-clause-named
write-requires-clause-named c =
    let clauses = clauses_in c.args.self.now in
    let allowed = subst (AllowsBack clauses) c.in-Write.is c.requires.allowed in
    place-there clauses c.in-Write.at c.requires.clauses allowed.0

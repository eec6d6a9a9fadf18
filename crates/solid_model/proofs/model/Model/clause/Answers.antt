-- The invariant says what each clause is at its place.
use Rattle.solid_model.specs.Seen.{clause_seen}
use Rattle.solid_model.proofs.model.Model.clause.Goals as goal

pub returns-clause-stands : goal.returns-clause-stands
returns-clause-stands c = c.self.invariant.clauses_are.each c.args.at (clause_seen c.clause.result) c.clause.ensures

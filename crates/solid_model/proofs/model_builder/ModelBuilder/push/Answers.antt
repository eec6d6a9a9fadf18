-- Clauses stay clauses, whether the push is made or refused.
use Rattle.std.proofs.Common.{length}
use Rattle.solid_model.specs.Clauses.{FitsAt}
use Rattle.solid_model.proofs.ModelLemmas.{AreClauses-tried}
use Rattle.solid_model.proofs.model_builder.ModelBuilder.push.Goals as goal
use Rattle.solid_model.specs.Tables.{clauses_in}

pub invariant_of-self : goal.invariant_of-self
invariant_of-self c =
    let fits : FitsAt (length (clauses_in c.self.inside.table)) c.args.op c.args.a c.args.b c.args.value = rw c.self.view_is c.requires.fits in
    AreClauses-tried (clauses_in c.self.inside.table) _ (clauses_in c.push.new.self) c.push.result c.self.invariant
    (record { name = c.requires.name; raw = c.raw_range.ensures; fits = fits }) c.push.ensures.free c.push.ensures.ok c.push.ensures.err

-- The clause that is written anew keeps its name.
use Rattle.std.proofs.Common.{◌≡◌, Some, List, ℕ, set, ap, sym, subst, ◌∙◌}
use Rattle.solid_model.specs.Changes.{done, Allows}
use Rattle.solid_model.specs.Clauses.{place_of}
use Rattle.solid_model.specs.Seen.{named_clause}
use Rattle.solid_model.specs.Tables.{clauses_in}
use Rattle.solid_model.proofs.SurgeryLemmas.{name_there}
use Rattle.solid_model.proofs.table.Table.make.Goals as goal

pub write-requires-clause-named : goal.write-requires-clause-named
write-requires-clause-named c =
    let clauses = clauses_in c.args.self.now in
    let allowed = subst (Allows clauses) c.in-Write.is c.requires.allowed in
    subst (λ n. place_of clauses n ≡ Some c.in-Write.at) (sym (name_there clauses c.in-Write.at c.in-Write.clause.name.now allowed.0)) allowed.0

pub returns-in-Write-clause-ok : goal.returns-in-Write-clause-ok
returns-in-Write-clause-ok c =
    let clauses = clauses_in c.args.self.now in
    let allowed = subst (Allows clauses) c.in-Write.is c.requires.allowed in
    c.write.ensures
    ∙ ap (λ (n : List ℕ). set clauses c.in-Write.at (named_clause n c.form.result)) (name_there clauses c.in-Write.at c.in-Write.clause.name.now allowed.0)
    ∙ ap (λ f. set clauses c.in-Write.at (named_clause c.in-Write.clause.name.now f)) c.form.ensures
    ∙ ap (done clauses) (sym c.in-Write.is)

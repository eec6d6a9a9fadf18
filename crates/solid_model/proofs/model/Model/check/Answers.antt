-- The edit by places is the edit by names.
use Rattle.std.proofs.Common.{◌≡◌, Ok, Err, refl, sym, ◌∙◌, ap}
use Rattle.solid_model.specs.Changes.{done}
use Rattle.solid_model.specs.Edits.{edited}
use Rattle.solid_model.proofs.ChangeLemmas.{edited-not-undo, edited-surgery}
use Rattle.solid_model.proofs.model.Model.check.Goals as goal
use Rattle.solid_model.specs.Tables.{clauses_in}

pub returns-in-Ok-clause-ok : goal.returns-in-Ok-clause-ok
returns-in-Ok-clause-ok c =
    let clauses = clauses_in c.self.inside.table in
    let made : edited clauses c.lent.result ≡ Ok (done clauses c.in-Ok.field-0) =
    edited-surgery clauses c.lent.result c.self.invariant.clauses_are c.in-Ok.ensures.edit ∙ c.in-Ok.ensures.change in
    rw (← c.self.view_is, ← c.lent.ensures, made) refl

pub returns-in-Err-clause-fault : goal.returns-in-Err-clause-fault
returns-in-Err-clause-fault c =
    let clauses = clauses_in c.self.inside.table in
    rw (← c.self.view_is, ← c.lent.ensures)
    (edited-surgery clauses c.lent.result c.self.invariant.clauses_are c.in-Err.ensures.edit ∙ c.in-Err.ensures.change ∙ ap Err (sym c.fault.ensures))

pub returns-in-Err-clause-not_undo : goal.returns-in-Err-clause-not_undo
returns-in-Err-clause-not_undo c =
    let clauses = clauses_in c.self.inside.table in
    edited-not-undo clauses c.lent.result _
    (edited-surgery clauses c.lent.result c.self.invariant.clauses_are c.in-Err.ensures.edit ∙ c.in-Err.ensures.change ∙ ap Err (sym c.fault.ensures))

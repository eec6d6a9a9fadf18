-- A table that was a model is one after the edit, and after a refusal; and the edit by places is the edit by names.
use Rattle.solid_model.proofs.ChangeLemmas.{edited-surgery, models-surgery, not-undo}
use Rattle.solid_model.proofs.SurgeryModels.{stays}
use Rattle.solid_model.proofs.model.Model.apply.Goals as goal
use Rattle.solid_model.specs.Tables.{clauses_in}

pub invariant_of-self : goal.invariant_of-self
invariant_of-self c =
    stays (clauses_in c.self.inside.table) _ _ _
    (models-surgery (clauses_in c.self.inside.table) c.lent.result _ c.self.invariant.clauses_are c.apply.ensures.edit)
    c.self.invariant c.apply.ensures.ok c.apply.ensures.err

pub returns-clause-ok : goal.returns-clause-ok
returns-clause-ok c =
    rw (← c.self.view_is, ← c.lent.ensures, edited-surgery (clauses_in c.self.inside.table) c.lent.result c.self.invariant.clauses_are c.apply.ensures.edit) c.apply.ensures.ok

pub returns-clause-fault : goal.returns-clause-fault
returns-clause-fault c =
    rw (← c.self.view_is, ← c.lent.ensures, edited-surgery (clauses_in c.self.inside.table) c.lent.result c.self.invariant.clauses_are c.apply.ensures.edit) c.apply.ensures.fault

pub returns-clause-no_memory : goal.returns-clause-no_memory
returns-clause-no_memory c =
    rw (← c.self.view_is, ← c.lent.ensures, edited-surgery (clauses_in c.self.inside.table) c.lent.result c.self.invariant.clauses_are c.apply.ensures.edit) c.apply.ensures.no_memory

pub returns-clause-not_undo : goal.returns-clause-not_undo
returns-clause-not_undo c =
    not-undo (clauses_in c.self.inside.table) c.lent.result _
    (rw (edited-surgery (clauses_in c.self.inside.table) c.lent.result c.self.invariant.clauses_are c.apply.ensures.edit) c.apply.ensures.fault)

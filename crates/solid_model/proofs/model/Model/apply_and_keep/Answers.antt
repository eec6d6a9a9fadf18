-- A table that was a model is one after the edit, and after a refusal; the edit by places is the edit by names; and what takes
-- the change back is the edit's inverse.
use Rattle.solid_model.specs.Tables.{clauses_in}
use Rattle.solid_model.proofs.ChangeLemmas.{edited-surgery, models-surgery}
use Rattle.solid_model.proofs.ReversalLemmas.{kept-back}
use Rattle.solid_model.proofs.SurgeryModels.{stays}
use Rattle.solid_model.proofs.model.Model.apply_and_keep.Goals as goal

pub invariant_of-self : goal.invariant_of-self
invariant_of-self c =
    stays (clauses_in c.self.inside.table) _ _ _
    (models-surgery (clauses_in c.self.inside.table) c.args.edit.now _ c.self.invariant.clauses_are c.apply_and_keep.ensures.edit)
    c.self.invariant c.apply_and_keep.ensures.ok c.apply_and_keep.ensures.err

pub returns-clause-ok : goal.returns-clause-ok
returns-clause-ok c =
    rw (← c.self.view_is, edited-surgery (clauses_in c.self.inside.table) c.args.edit.now c.self.invariant.clauses_are c.apply_and_keep.ensures.edit) c.apply_and_keep.ensures.ok

pub returns-clause-kept : goal.returns-clause-kept
returns-clause-kept c =
    rw (← c.self.view_is)
    (kept-back (clauses_in c.self.inside.table) _ c.args.edit.now _ _ c.apply_and_keep.result c.self.invariant c.apply_and_keep.ensures.edit
    c.apply_and_keep.ensures.ok c.apply_and_keep.ensures.kept)

pub returns-clause-fault : goal.returns-clause-fault
returns-clause-fault c =
    rw (← c.self.view_is, edited-surgery (clauses_in c.self.inside.table) c.args.edit.now c.self.invariant.clauses_are c.apply_and_keep.ensures.edit) c.apply_and_keep.ensures.fault

pub returns-clause-no_memory : goal.returns-clause-no_memory
returns-clause-no_memory c =
    rw (← c.self.view_is, edited-surgery (clauses_in c.self.inside.table) c.args.edit.now c.self.invariant.clauses_are c.apply_and_keep.ensures.edit) c.apply_and_keep.ensures.no_memory

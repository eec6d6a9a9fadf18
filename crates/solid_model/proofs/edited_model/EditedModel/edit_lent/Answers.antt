-- What takes the edit back comes before the others, which lead back from where it leads.
use Rattle.solid_model.proofs.ChangeLemmas.{not-undo}
use Rattle.solid_model.proofs.ReversalLemmas.{kept-allow, kept-opening, kept-undo}
use Rattle.solid_model.proofs.edited_model.EditedModel.edit_lent.Goals as goal

pub invariant_of-self : goal.invariant_of-self
invariant_of-self c =
    kept-allow c.self.inside.model c.apply_and_keep.new.self c.args.edit.now c.self.inside.backs.items c.apply_and_keep.new.backs.items c.apply_and_keep.result c.self.invariant
    c.apply_and_keep.ensures.kept c.apply_and_keep.ensures.err c.apply_and_keep.ensures.others

pub returns-clause-undo : goal.returns-clause-undo
returns-clause-undo c =
    rw (← c.self.view_is)
    (kept-undo c.self.inside.model c.apply_and_keep.new.self c.args.edit.now c.self.inside.backs.items c.apply_and_keep.new.backs.items c.apply_and_keep.result
    c.apply_and_keep.ensures.kept)

pub returns-clause-fault : goal.returns-clause-fault
returns-clause-fault c = rw (← c.self.view_is) c.apply_and_keep.ensures.fault

pub returns-clause-opening : goal.returns-clause-opening
returns-clause-opening c =
    rw (← c.self.view_is)
    (kept-opening c.self.inside.model c.apply_and_keep.new.self c.args.edit.now c.self.inside.backs.items c.apply_and_keep.new.backs.items c.apply_and_keep.result
    c.apply_and_keep.ensures.kept c.apply_and_keep.ensures.err c.apply_and_keep.ensures.others)

pub returns-clause-not_undo : goal.returns-clause-not_undo
returns-clause-not_undo c = not-undo c.self.inside.model c.args.edit.now _ c.apply_and_keep.ensures.fault

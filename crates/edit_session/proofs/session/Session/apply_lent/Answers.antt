use Rattle.edit_session.proofs.session.Session.apply_lent.Goals as goal

pub returns-clause-fault : goal.returns-clause-fault
returns-clause-fault c = rw (← c.self.view_is) c.edit_lent.ensures.fault

-- The kept reversals are allowed, so the edits that they are are accepted.
use Rattle.std.proofs.Common.{reverse}
use Rattle.solid_model.proofs.AcceptedLemmas.{all-accepted}
use Rattle.solid_model.proofs.edited_model.EditedModel.holds.Goals as goal

pub returns : goal.returns
returns c = rw (← c.self.view_is) (all-accepted c.self.inside.model (reverse c.self.inside.backs.items) c.len-len.ensures.model c.self.invariant)

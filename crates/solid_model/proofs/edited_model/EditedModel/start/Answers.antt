-- Nothing is to be taken back.
use Rattle.std.proofs.Common.{List, ap, reverse, sym, subst}
use Rattle.solid_model.specs.declared.reversal.Reversal.{Reversal}
use Rattle.solid_model.specs.Reversals.{edits_back, AllowBack}
use Rattle.solid_model.proofs.edited_model.EditedModel.start.Goals as goal

pub invariant_of-result : goal.invariant_of-result
unfolding AllowBack
invariant_of-result c = subst (λ (xs : List Reversal). AllowBack c.args.model (reverse xs)) (sym c.new.ensures.items) tt

pub returns : goal.returns
unfolding edits_back
returns c = ap (λ (xs : List Reversal). record { clauses = c.args.model; undo = edits_back c.args.model (reverse xs) }) c.new.ensures.items

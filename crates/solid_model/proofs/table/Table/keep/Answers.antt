-- The refusal tells the first clause that reads the place.
use Rattle.std.proofs.Common.{◌≡◌, ◌<◌, Some, length, sym, subst}
use Rattle.std.specs.List.{position}
use Rattle.solid_model.specs.Changes.{TellsUser}
use Rattle.solid_model.specs.Clauses.{AreInOrder}
use Rattle.solid_model.specs.Surgery.{reads}
use Rattle.solid_model.specs.Tables.{clauses_in}
use Rattle.solid_model.proofs.KeptLemmas.{at-place, kept-told}
use Rattle.solid_model.proofs.table.Table.keep.Goals as goal

pub invariant_of-self : goal.invariant_of-self
invariant_of-self c =
    let at = c.in-InUse.at in
    let user = c.in-InUse.user in
    let told = subst (λ r. TellsUser (clauses_in c.args.self.now) r) c.in-InUse.is c.requires.told in
    let stands = at-place _ _ _ _ _ _ c.self.invariant at c.index-asked.result.now (subst (λ k. at < length (clauses_in k)) (sym c.self.view_is) told.0) c.index-asked.ensures in
    kept-told _ _ _ _ _ _ c.self.invariant at c.index-asked.result.now user c.keep_user.new.users.items
    (subst (λ k. AreInOrder (clauses_in k)) (sym c.self.view_is) c.requires.in_order) stands.number
    (sym (subst (λ k. position (reads at) (clauses_in k) ≡ Some user) (sym c.self.view_is) told.1)) c.keep_user.ensures

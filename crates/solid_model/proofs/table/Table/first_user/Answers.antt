-- A number that is no operand has no user. Else the first row that has it, from the place on, is that of the first
-- clause that reads the place.
use Rattle.solid_model.proofs.table.Table.first_user.Goals as goal
use Rattle.std.specs.List.{position}
use Rattle.std.proofs.lemmas.Option.{get_or_from_slice_get, slice_get-get_or}
use Rattle.std.proofs.Common.{Some, arith, get_or, length, subst, sym, ◌<◌, ◌∙◌, ◌≡◌, ap}
use Rattle.solid_model.specs.Tables.{clauses_in}
use Rattle.solid_model.specs.Surgery.{reads}
use Rattle.solid_model.specs.Clauses.{AreInOrder}
use Rattle.solid_model.proofs.UseLemmas.{unused}
use Rattle.solid_model.proofs.Readers.{readers-alike, first-user}
use Rattle.solid_model.proofs.Lookups.{number-within}
use Rattle.solid_model.proofs.KeptLemmas.{at-place}

pub index-requires : goal.index-requires
index-requires c =
    let at = at-place _ _ _ _ _ _ c.self.invariant c.args.at c.index-number.result.now (subst (λ k. c.args.at < length (clauses_in k)) (sym c.self.view_is) c.requires.there) c.index-number.ensures in
    omega (arith, at.used)

pub returns-then-index-eq0-clause-place : goal.returns-then-index-eq0-clause-place
returns-then-index-eq0-clause-place c =
    let at = at-place _ _ _ _ _ _ c.self.invariant c.args.at c.index-number.result.now (subst (λ k. c.args.at < length (clauses_in k)) (sym c.self.view_is) c.requires.there) c.index-number.ensures in
    let in_order = subst (λ k. AreInOrder (clauses_in k)) (sym c.self.view_is) c.requires.in_order in
    let uses = c.self.inside.uses.items in
    let n = c.index-number.result.now in
    let none : get_or uses n 0 ≡ 0 = get_or_from_slice_get uses n 0 0 (slice_get-get_or uses n c.index.result.now at.used ∙ ap Some (sym c.index.ensures ∙ c.if-index-eq0.true)) in
    rw (← c.self.view_is) (sym (unused _ _ _ _ c.self.invariant.table uses c.self.invariant.counted c.args.at n in_order at.number none))

pub returns-then-known-gt0-clause-place : goal.returns-then-known-gt0-clause-place
returns-then-known-gt0-clause-place c =
    let at = at-place _ _ _ _ _ _ c.self.invariant c.args.at c.index-number.result.now (subst (λ k. c.args.at < length (clauses_in k)) (sym c.self.view_is) c.requires.there) c.index-number.ensures in
    let in_order = subst (λ k. AreInOrder (clauses_in k)) (sym c.self.view_is) c.requires.in_order in
    let n = c.index-number.result.now in
    let told : 0 < get_or c.self.inside.users.items n 0 = omega (arith, c.kept_user-known.ensures, c.if-known-gt0.true) in
    ap Some c.kept_user-known.ensures ∙ sym (c.self.invariant.users n told) ∙ sym (readers-alike _ _ _ _ c.self.invariant.table c.args.at n in_order at.number)
    ∙ ap (λ k. position (reads c.args.at) (clauses_in k)) c.self.view_is

pub first_reader-requires-clause-rows : goal.first_reader-requires-clause-rows
first_reader-requires-clause-rows c =
    λ place user e. omega (arith, number-within _ _ _ _ c.self.invariant.table place user e, c.self.invariant.table.rows_are)

pub returns-clause-place : goal.returns-clause-place
returns-clause-place c =
    let at = at-place _ _ _ _ _ _ c.self.invariant c.args.at c.index-number.result.now (subst (λ k. c.args.at < length (clauses_in k)) (sym c.self.view_is) c.requires.there) c.index-number.ensures in
    let in_order = subst (λ k. AreInOrder (clauses_in k)) (sym c.self.view_is) c.requires.in_order in
    let found = first-user _ _ _ _ c.self.invariant.table c.args.at c.index-number.result.now c.first_reader.result in_order at.number c.first_reader.ensures.none c.first_reader.ensures.some in
    found ∙ ap (λ k. position (reads c.args.at) (clauses_in k)) c.self.view_is

-- A number has a name, which is that of its clause.
use Rattle.std.proofs.Common.{◌≡◌, ◌<◌, Some, length, get_or, slice_get, ap, sym, subst, ◌∙◌, arith}
use Rattle.std.proofs.lemmas.Option.{slice_get-get_or}
use Rattle.solid_model.specs.Clauses.{AreInOrder}
use Rattle.solid_model.specs.Named.{name_at}
use Rattle.solid_model.specs.Names.{IsName}
use Rattle.solid_model.specs.Tables.{Standing, clause_of, clauses_in}
use Rattle.solid_model.proofs.KeptLemmas.{at-place}
use Rattle.solid_model.proofs.Lookups.{clause-there, label-is}
use Rattle.solid_model.proofs.NamedLemmas.{name_at-is}
use Rattle.solid_model.proofs.table.Table.name.Goals as goal

pub bounds-as_slice-number : goal.bounds-as_slice-number
bounds-as_slice-number c =
    let at = at-place _ _ _ _ _ _ c.self.invariant c.args.at c.index.result.now (subst (λ k. c.args.at < length (clauses_in k)) (sym c.self.view_is) c.requires.within) c.index.ensures in
    omega (arith, at.name, ap length c.as_slice.ensures.keys)

pub of-requires : goal.of-requires
of-requires c =
    let at = at-place _ _ _ _ _ _ c.self.invariant c.args.at c.index.result.now (subst (λ k. c.args.at < length (clauses_in k)) (sym c.self.view_is) c.requires.within) c.index.ensures in
    let order : Standing = record { numbers = c.self.inside.numbers.items; places = c.self.inside.places.items } in
    let names = c.self.inside.names.keys in
    let n = c.index.result.now in
    let key = c.index-as_slice-number.result in
    let there : slice_get names n ≡ Some key =
    slice_get-get_or names n key at.name ∙ ap Some (sym (c.index-as_slice-number.is ∙ ap (λ ks. get_or ks n key) c.as_slice.ensures.keys)) in
    let stands = (subst (λ k. AreInOrder (clauses_in k)) (sym c.self.view_is) c.requires.in_order) c.args.at
    (clause_of order c.self.inside.rows.items names n)
    (clause-there order c.self.inside.count c.self.inside.rows.items names c.self.invariant.table c.args.at n at.front at.number) in
    subst IsName (label-is names n key there ∙ sym c.in_ok-label.ensures) stands.name

pub returns : goal.returns
returns c =
    let at = at-place _ _ _ _ _ _ c.self.invariant c.args.at c.index.result.now (subst (λ k. c.args.at < length (clauses_in k)) (sym c.self.view_is) c.requires.within) c.index.ensures in
    let order : Standing = record { numbers = c.self.inside.numbers.items; places = c.self.inside.places.items } in
    let names = c.self.inside.names.keys in
    let n = c.index.result.now in
    let key = c.index-as_slice-number.result in
    let there : slice_get names n ≡ Some key =
    slice_get-get_or names n key at.name ∙ ap Some (sym (c.index-as_slice-number.is ∙ ap (λ ks. get_or ks n key) c.as_slice.ensures.keys)) in
    let is : name_at (clauses_in (record { order = order; count = c.self.inside.count; rows = c.self.inside.rows.items; names = names })) c.args.at ≡ key =
    name_at-is _ c.args.at (clause_of order c.self.inside.rows.items names n)
    (clause-there order c.self.inside.count c.self.inside.rows.items names c.self.invariant.table c.args.at n at.front at.number)
    ∙ label-is names n key there in
    c.of.ensures ∙ c.in_ok-label.ensures ∙ sym is ∙ ap (λ k. name_at (clauses_in k) c.args.at) c.self.view_is

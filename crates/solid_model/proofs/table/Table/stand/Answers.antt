-- The row is written for a number that does not stand, and the number moves to the place.
use Rattle.solid_model.proofs.table.Table.stand.Goals as goal
use Rattle.std.specs.List.{insert}
use Rattle.std.proofs.lemmas.Option.{get_or_from_slice_get, slice_get_within}
use Rattle.std.proofs.Common.{ap, arith, length, map, subst, sym, ◌∙◌, ◌≤◌}
use Rattle.solid_model.specs.Tables.{HasName, IsNumbered, Standing, clauses_in, standing_place}
use Rattle.solid_model.specs.Seen.{clause_seen, named_clause}
use Rattle.solid_model.specs.Surgery.{moved, up}
use Rattle.solid_model.specs.Clauses.{AreInOrder}
use Rattle.solid_model.proofs.UseLemmas.{uses-few}
use Rattle.solid_model.proofs.Rewrites.{first-within, second-within}
use Rattle.solid_model.proofs.Lookups.{length-clauses, place-known}
use Rattle.solid_model.proofs.KeptLemmas.{kept-stood, clauses-arrived}

pub count_operands-requires-clause-first : goal.count_operands-requires-clause-first
count_operands-requires-clause-first c =
    λ h. omega (arith, first-within _ _ _ _ c.self.invariant.table (clause_seen c.args.clause.now) c.numbered-row.result (subst (λ f. IsNumbered c.self.inside.numbers.items (named_clause c.args.clause.now.name.now f) c.numbered-row.result) c.form.ensures (c.numbered-row.ensures c.args.clause.now.name.now)) h, c.self.invariant.counted.as_many)

pub count_operands-requires-clause-second : goal.count_operands-requires-clause-second
count_operands-requires-clause-second c =
    λ h. omega (arith, second-within _ _ _ _ c.self.invariant.table (clause_seen c.args.clause.now) c.numbered-row.result (subst (λ f. IsNumbered c.self.inside.numbers.items (named_clause c.args.clause.now.name.now f) c.numbered-row.result) c.form.ensures (c.numbered-row.ensures c.args.clause.now.name.now)) h, c.self.invariant.counted.as_many)

pub count_operands-requires-clause-few : goal.count_operands-requires-clause-few
count_operands-requires-clause-few c =
    λ n less. uses-few _ _ _ _ c.self.invariant.table _ c.self.invariant.counted n less

pub move_number-requires-clause-from : goal.move_number-requires-clause-from
move_number-requires-clause-from c =
    let table = c.self.invariant.table in
    let m = c.args.number in
    let has : HasName c.self.inside.names.keys c.args.clause.now.name.now m = subst (λ k. HasName k.names c.args.clause.now.name.now m) (sym c.self.view_is) c.requires.named in
    let front : c.args.at ≤ c.self.inside.count = omega (arith, subst (λ k. c.args.at ≤ length (clauses_in k)) (sym c.self.view_is) c.requires.within, length-clauses _ _ _ _ table) in
    let from = c.index.result.now in
    let stands = place-known _ _ _ _ table m from has.known c.index.ensures in
    let number = table.places.back m from stands in
    let behind : c.self.inside.count ≤ from = subst (λ p. c.self.inside.count ≤ p) (get_or_from_slice_get c.self.inside.places.items m from 0 stands) (subst (λ k. k.count ≤ standing_place k.order m) (sym c.self.view_is) c.requires.behind) in
    slice_get_within c.self.inside.numbers.items from m number

pub move_number-requires-clause-to : goal.move_number-requires-clause-to
move_number-requires-clause-to c =
    let table = c.self.invariant.table in
    let m = c.args.number in
    let has : HasName c.self.inside.names.keys c.args.clause.now.name.now m = subst (λ k. HasName k.names c.args.clause.now.name.now m) (sym c.self.view_is) c.requires.named in
    let front : c.args.at ≤ c.self.inside.count = omega (arith, subst (λ k. c.args.at ≤ length (clauses_in k)) (sym c.self.view_is) c.requires.within, length-clauses _ _ _ _ table) in
    let from = c.index.result.now in
    let stands = place-known _ _ _ _ table m from has.known c.index.ensures in
    let number = table.places.back m from stands in
    let behind : c.self.inside.count ≤ from = subst (λ p. c.self.inside.count ≤ p) (get_or_from_slice_get c.self.inside.places.items m from 0 stands) (subst (λ k. k.count ≤ standing_place k.order m) (sym c.self.view_is) c.requires.behind) in
    omega (arith, front, behind, slice_get_within c.self.inside.numbers.items from m number)

pub invariant_of-self : goal.invariant_of-self
invariant_of-self c =
    let table = c.self.invariant.table in
    let m = c.args.number in
    let has : HasName c.self.inside.names.keys c.args.clause.now.name.now m = subst (λ k. HasName k.names c.args.clause.now.name.now m) (sym c.self.view_is) c.requires.named in
    let front : c.args.at ≤ c.self.inside.count = omega (arith, subst (λ k. c.args.at ≤ length (clauses_in k)) (sym c.self.view_is) c.requires.within, length-clauses _ _ _ _ table) in
    let from = c.index.result.now in
    let stands = place-known _ _ _ _ table m from has.known c.index.ensures in
    let number = table.places.back m from stands in
    let behind : c.self.inside.count ≤ from = subst (λ p. c.self.inside.count ≤ p) (get_or_from_slice_get c.self.inside.places.items m from 0 stands) (subst (λ k. k.count ≤ standing_place k.order m) (sym c.self.view_is) c.requires.behind) in
    let new : Standing = record { numbers = c.move_number.new.numbers.items; places = c.move_number.new.places.items } in
    rw c.clear.ensures.items
    (kept-stood _ _ _ _ _ _ c.self.invariant new c.args.at from m (clause_seen c.args.clause.now) c.numbered-row.result front behind number (subst (λ f. IsNumbered c.self.inside.numbers.items (named_clause c.args.clause.now.name.now f) c.numbered-row.result) c.form.ensures (c.numbered-row.ensures c.args.clause.now.name.now))
    c.move_number.ensures.are c.move_number.ensures.moved c.count_operands.new.uses.items c.count_operands.ensures.len c.count_operands.ensures.each)

pub returns : goal.returns
returns c =
    let table = c.self.invariant.table in
    let m = c.args.number in
    let has : HasName c.self.inside.names.keys c.args.clause.now.name.now m = subst (λ k. HasName k.names c.args.clause.now.name.now m) (sym c.self.view_is) c.requires.named in
    let front : c.args.at ≤ c.self.inside.count = omega (arith, subst (λ k. c.args.at ≤ length (clauses_in k)) (sym c.self.view_is) c.requires.within, length-clauses _ _ _ _ table) in
    let from = c.index.result.now in
    let stands = place-known _ _ _ _ table m from has.known c.index.ensures in
    let number = table.places.back m from stands in
    let behind : c.self.inside.count ≤ from = subst (λ p. c.self.inside.count ≤ p) (get_or_from_slice_get c.self.inside.places.items m from 0 stands) (subst (λ k. k.count ≤ standing_place k.order m) (sym c.self.view_is) c.requires.behind) in
    let new : Standing = record { numbers = c.move_number.new.numbers.items; places = c.move_number.new.places.items } in
    clauses-arrived _ _ _ _ _ _ c.self.invariant new c.args.at from m (clause_seen c.args.clause.now) c.numbered-row.result front behind number (subst (λ f. IsNumbered c.self.inside.numbers.items (named_clause c.args.clause.now.name.now f) c.numbered-row.result) c.form.ensures (c.numbered-row.ensures c.args.clause.now.name.now))
    c.move_number.ensures.are c.move_number.ensures.moved (subst (λ k. AreInOrder (clauses_in k)) (sym c.self.view_is) c.requires.in_order) has c.requires.operands
    ∙ ap (λ k. insert (map (moved (up c.args.at)) (clauses_in k)) c.args.at (clause_seen c.args.clause.now)) c.self.view_is

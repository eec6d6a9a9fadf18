-- The number goes behind those that stand, and its operands are counted no more.
use Rattle.solid_model.proofs.table.Table.remove.Goals as goal
use Rattle.std.specs.List.{position, remove}
use Rattle.std.proofs.Common.{None, ap, arith, get_or, length, map, subst, suc, sym, ◌<◌, ◌∙◌, ◌≡◌, ◌≤◌, ◌-◌}
use Rattle.solid_model.specs.Tables.{Standing, clauses_in, row_uses}
use Rattle.solid_model.specs.Surgery.{down, moved, reads}
use Rattle.solid_model.specs.Clauses.{AreInOrder}
use Rattle.solid_model.proofs.UseLemmas.{row-counted}
use Rattle.solid_model.proofs.Lookups.{row-is}
use Rattle.solid_model.proofs.KeptLemmas.{at-place, kept-removed, row-at}
use Rattle.solid_model.proofs.Departures.{clauses-removed}

pub index-requires-2 : goal.index-requires-2
index-requires-2 c =
    let table = c.self.invariant.table in
    let at = at-place _ _ _ _ _ _ c.self.invariant c.args.at c.index.result.now (subst (λ k. c.args.at < length (clauses_in k)) (sym c.self.view_is) c.requires.there) c.index.ensures in
    omega (arith, at.row)

pub uncount_operands-requires-clause-first : goal.uncount_operands-requires-clause-first
uncount_operands-requires-clause-first c =
    let table = c.self.invariant.table in
    let at = at-place _ _ _ _ _ _ c.self.invariant c.args.at c.index.result.now (subst (λ k. c.args.at < length (clauses_in k)) (sym c.self.view_is) c.requires.there) c.index.ensures in
    let old = row-at _ _ _ _ _ _ c.self.invariant c.index.result.now c.index-2.result.now at.row c.index-2.ensures in
    λ h. omega (arith, table.first c.index.result.now c.index-2.result.now old h, c.self.invariant.counted.as_many)

pub uncount_operands-requires-clause-second : goal.uncount_operands-requires-clause-second
uncount_operands-requires-clause-second c =
    let table = c.self.invariant.table in
    let at = at-place _ _ _ _ _ _ c.self.invariant c.args.at c.index.result.now (subst (λ k. c.args.at < length (clauses_in k)) (sym c.self.view_is) c.requires.there) c.index.ensures in
    let old = row-at _ _ _ _ _ _ c.self.invariant c.index.result.now c.index-2.result.now at.row c.index-2.ensures in
    λ h. omega (arith, table.second c.index.result.now c.index-2.result.now old h, c.self.invariant.counted.as_many)

pub uncount_operands-requires-clause-counted : goal.uncount_operands-requires-clause-counted
uncount_operands-requires-clause-counted c =
    let table = c.self.invariant.table in
    let at = at-place _ _ _ _ _ _ c.self.invariant c.args.at c.index.result.now (subst (λ k. c.args.at < length (clauses_in k)) (sym c.self.view_is) c.requires.there) c.index.ensures in
    let old = row-at _ _ _ _ _ _ c.self.invariant c.index.result.now c.index-2.result.now at.row c.index-2.ensures in
    λ n less. subst (λ r. row_uses n r ≤ get_or c.self.inside.uses.items n 0) (row-is c.self.inside.rows.items c.index.result.now c.index-2.result.now old)
    (row-counted _ _ _ _ table _ c.self.invariant.counted c.args.at c.index.result.now n at.front at.number less)

pub invariant_of-self : goal.invariant_of-self
invariant_of-self c =
    let table = c.self.invariant.table in
    let at = at-place _ _ _ _ _ _ c.self.invariant c.args.at c.index.result.now (subst (λ k. c.args.at < length (clauses_in k)) (sym c.self.view_is) c.requires.there) c.index.ensures in
    let old = row-at _ _ _ _ _ _ c.self.invariant c.index.result.now c.index-2.result.now at.row c.index-2.ensures in
    let new : Standing = record { numbers = c.move_number.new.numbers.items; places = c.move_number.new.places.items } in
    let last = c.self.inside.count - 1 in
    let ends : suc last ≡ c.self.inside.count = omega (arith, at.front) in
    rw c.clear.ensures.items
    (kept-removed _ _ _ _ _ _ c.self.invariant new c.args.at last c.index.result.now c.index-2.result.now c.uncount_operands.new.uses.items ends at.front at.number
    (sym (row-is c.self.inside.rows.items c.index.result.now c.index-2.result.now old)) c.move_number.ensures.are c.move_number.ensures.moved
    c.uncount_operands.ensures.len c.uncount_operands.ensures.each)

pub returns : goal.returns
returns c =
    let table = c.self.invariant.table in
    let at = at-place _ _ _ _ _ _ c.self.invariant c.args.at c.index.result.now (subst (λ k. c.args.at < length (clauses_in k)) (sym c.self.view_is) c.requires.there) c.index.ensures in
    let new : Standing = record { numbers = c.move_number.new.numbers.items; places = c.move_number.new.places.items } in
    let last = c.self.inside.count - 1 in
    let ends : suc last ≡ c.self.inside.count = omega (arith, at.front) in
    clauses-removed _ _ _ _ table new c.args.at last c.index.result.now ends (subst (λ k. AreInOrder (clauses_in k)) (sym c.self.view_is) c.requires.in_order) at.front
    (subst (λ k. position (reads c.args.at) (clauses_in k) ≡ None) (sym c.self.view_is) c.requires.unread) at.number c.move_number.ensures.are c.move_number.ensures.moved
    ∙ ap (λ k. remove (map (moved (down c.args.at)) (clauses_in k)) c.args.at) c.self.view_is

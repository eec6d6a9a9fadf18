-- A number has a row and a name, and its operands have places.
use Rattle.solid_model.proofs.table.Table.clause.Goals as goal
use Rattle.std.proofs.lemmas.Bool.Decides.{nat_tests}
use Rattle.std.proofs.Common.{Some, arith, cond, get_or, length, nat_le, slice_get, subst, sym, ◌<◌, ◌∙◌, ◌≡◌, ap}
use Rattle.solid_model.specs.Tables.{Standing, clauses_in, standing_place}
use Rattle.solid_model.proofs.Readers.{clause-seen}
use Rattle.solid_model.proofs.KeptLemmas.{at-place, row-at}
use Rattle.fixed_ops.specs.Arity.{arity_of}
use Rattle.std.proofs.lemmas.Option.{slice_get-get_or}

pub index-row-requires : goal.index-row-requires
index-row-requires c =
    let at = at-place _ _ _ _ _ _ c.self.invariant c.args.at c.index.result.now (subst (λ k. c.args.at < length (clauses_in k)) (sym c.self.view_is) c.requires) c.index.ensures in
    omega (arith, at.row)

pub bounds-as_slice-number : goal.bounds-as_slice-number
bounds-as_slice-number c =
    let at = at-place _ _ _ _ _ _ c.self.invariant c.args.at c.index.result.now (subst (λ k. c.args.at < length (clauses_in k)) (sym c.self.view_is) c.requires) c.index.ensures in
    omega (arith, at.name, ap length c.as_slice.ensures.keys)

pub operand_place-requires : goal.operand_place-requires
operand_place-requires c =
    let at = at-place _ _ _ _ _ _ c.self.invariant c.args.at c.index.result.now (subst (λ k. c.args.at < length (clauses_in k)) (sym c.self.view_is) c.requires) c.index.ensures in
    let row = row-at _ _ _ _ _ _ c.self.invariant c.index.result.now c.index-row.result.now at.row c.index-row.ensures in
    λ h.
    let has : 0 < arity_of c.index-row.result.now.op = grind (arith, nat_tests) in
    omega (arith, c.self.invariant.table.first c.index.result.now c.index-row.result.now row has, c.self.invariant.table.places.as_many)

pub operand_place-requires-2 : goal.operand_place-requires-2
operand_place-requires-2 c =
    let at = at-place _ _ _ _ _ _ c.self.invariant c.args.at c.index.result.now (subst (λ k. c.args.at < length (clauses_in k)) (sym c.self.view_is) c.requires) c.index.ensures in
    let row = row-at _ _ _ _ _ _ c.self.invariant c.index.result.now c.index-row.result.now at.row c.index-row.ensures in
    λ h.
    let has : 1 < arity_of c.index-row.result.now.op = grind (arith, nat_tests) in
    omega (arith, c.self.invariant.table.second c.index.result.now c.index-row.result.now row has, c.self.invariant.table.places.as_many)

pub returns : goal.returns
returns c =
    let at = at-place _ _ _ _ _ _ c.self.invariant c.args.at c.index.result.now (subst (λ k. c.args.at < length (clauses_in k)) (sym c.self.view_is) c.requires) c.index.ensures in
    let row = row-at _ _ _ _ _ _ c.self.invariant c.index.result.now c.index-row.result.now at.row c.index-row.ensures in
    let names = c.self.inside.names.keys in
    let order : Standing = record { numbers = c.self.inside.numbers.items; places = c.self.inside.places.items } in
    let key = c.index-as_slice-number.result in
    let key_there : slice_get names c.index.result.now ≡ Some key =
    slice_get-get_or names c.index.result.now key at.name ∙ ap Some (sym (c.index-as_slice-number.is ∙ ap (λ ks. get_or ks c.index.result.now key) c.as_slice.ensures.keys)) in
    let says = c.index-row.result.now in
    let first : c.operand_place.result ≡ cond (nat_le 1 (arity_of says.op)) (standing_place order says.a) 0 = rw c.arity-operands.ensures at c.operand_place.ensures in
    let second : c.operand_place-2.result ≡ cond (nat_le 2 (arity_of says.op)) (standing_place order says.b) 0 = rw c.arity-operands.ensures at c.operand_place-2.ensures in
    ap (λ k. slice_get (clauses_in k) c.args.at) (sym c.self.view_is)
    ∙ clause-seen order c.self.inside.count c.self.inside.rows.items names c.self.invariant.table c.args.at c.index.result.now says key c.bytes.result.now c.operand_place.result c.operand_place-2.result
    at.front at.number row key_there c.bytes.ensures first second

-- The row of the number that stands at the place is written anew, and so are the counts of its operands.
use Rattle.solid_model.proofs.table.Table.write.Goals as goal
use Rattle.std.specs.Str.{bytes_eq}
use Rattle.std.proofs.Common.{Some, ap, arith, get_or, length, set, subst, sym, ◌<◌, ◌∙◌, ◌≡◌, ◌≤◌}
use Rattle.solid_model.specs.Tables.{clauses_in, row_uses}
use Rattle.solid_model.specs.Clauses.{place_of}
use Rattle.solid_model.specs.Named.{name_at}
use Rattle.solid_model.specs.Seen.{named_clause}
use Rattle.solid_model.proofs.UseLemmas.{row-counted, uses-few}
use Rattle.solid_model.proofs.Rewrites.{first-within, second-within, clauses-written}
use Rattle.solid_model.proofs.Places.{position_within}
use Rattle.solid_model.proofs.Lookups.{row-is}
use Rattle.solid_model.proofs.KeptLemmas.{at-place, kept-written, row-at}

pub index-requires-2 : goal.index-requires-2
index-requires-2 c =
    let table = c.self.invariant.table in
    let there = position_within (λ d. bytes_eq (name_at (clauses_in c.args.self.now) c.args.at) d.name) _ c.args.at (subst (λ k. place_of (clauses_in k) (name_at (clauses_in c.args.self.now) c.args.at) ≡ Some c.args.at) (sym c.self.view_is) c.requires.named) in
    let at = at-place _ _ _ _ _ _ c.self.invariant c.args.at c.index.result.now there c.index.ensures in
    omega (arith, at.row)

pub uncount_operands-requires-clause-first : goal.uncount_operands-requires-clause-first
uncount_operands-requires-clause-first c =
    let table = c.self.invariant.table in
    let there = position_within (λ d. bytes_eq (name_at (clauses_in c.args.self.now) c.args.at) d.name) _ c.args.at (subst (λ k. place_of (clauses_in k) (name_at (clauses_in c.args.self.now) c.args.at) ≡ Some c.args.at) (sym c.self.view_is) c.requires.named) in
    let at = at-place _ _ _ _ _ _ c.self.invariant c.args.at c.index.result.now there c.index.ensures in
    let old = row-at _ _ _ _ _ _ c.self.invariant c.index.result.now c.index-2.result.now at.row c.index-2.ensures in
    λ h. omega (arith, table.first c.index.result.now c.index-2.result.now old h, c.self.invariant.counted.as_many)

pub uncount_operands-requires-clause-second : goal.uncount_operands-requires-clause-second
uncount_operands-requires-clause-second c =
    let table = c.self.invariant.table in
    let there = position_within (λ d. bytes_eq (name_at (clauses_in c.args.self.now) c.args.at) d.name) _ c.args.at (subst (λ k. place_of (clauses_in k) (name_at (clauses_in c.args.self.now) c.args.at) ≡ Some c.args.at) (sym c.self.view_is) c.requires.named) in
    let at = at-place _ _ _ _ _ _ c.self.invariant c.args.at c.index.result.now there c.index.ensures in
    let old = row-at _ _ _ _ _ _ c.self.invariant c.index.result.now c.index-2.result.now at.row c.index-2.ensures in
    λ h. omega (arith, table.second c.index.result.now c.index-2.result.now old h, c.self.invariant.counted.as_many)

pub uncount_operands-requires-clause-counted : goal.uncount_operands-requires-clause-counted
uncount_operands-requires-clause-counted c =
    let table = c.self.invariant.table in
    let there = position_within (λ d. bytes_eq (name_at (clauses_in c.args.self.now) c.args.at) d.name) _ c.args.at (subst (λ k. place_of (clauses_in k) (name_at (clauses_in c.args.self.now) c.args.at) ≡ Some c.args.at) (sym c.self.view_is) c.requires.named) in
    let at = at-place _ _ _ _ _ _ c.self.invariant c.args.at c.index.result.now there c.index.ensures in
    let old = row-at _ _ _ _ _ _ c.self.invariant c.index.result.now c.index-2.result.now at.row c.index-2.ensures in
    λ n less. subst (λ r. row_uses n r ≤ get_or c.self.inside.uses.items n 0) (row-is c.self.inside.rows.items c.index.result.now c.index-2.result.now old)
    (row-counted _ _ _ _ table _ c.self.invariant.counted c.args.at c.index.result.now n at.front at.number less)

pub count_operands-requires-clause-first : goal.count_operands-requires-clause-first
count_operands-requires-clause-first c =
    λ h. omega (arith, first-within _ _ _ _ c.self.invariant.table (named_clause (name_at (clauses_in c.args.self.now) c.args.at) c.args.form.now) c.numbered-row.result (c.numbered-row.ensures (name_at (clauses_in c.args.self.now) c.args.at)) h, c.self.invariant.counted.as_many, c.uncount_operands.ensures.len)

pub count_operands-requires-clause-second : goal.count_operands-requires-clause-second
count_operands-requires-clause-second c =
    λ h. omega (arith, second-within _ _ _ _ c.self.invariant.table (named_clause (name_at (clauses_in c.args.self.now) c.args.at) c.args.form.now) c.numbered-row.result (c.numbered-row.ensures (name_at (clauses_in c.args.self.now) c.args.at)) h, c.self.invariant.counted.as_many, c.uncount_operands.ensures.len)

pub count_operands-requires-clause-few : goal.count_operands-requires-clause-few
count_operands-requires-clause-few c =
    λ n less.
    let within : n < length c.self.inside.uses.items = omega (arith, less, c.uncount_operands.ensures.len) in
    omega (arith, c.uncount_operands.ensures.each n within, uses-few _ _ _ _ c.self.invariant.table _ c.self.invariant.counted n within)

pub index_mut-requires : goal.index_mut-requires
index_mut-requires c =
    let table = c.self.invariant.table in
    let there = position_within (λ d. bytes_eq (name_at (clauses_in c.args.self.now) c.args.at) d.name) _ c.args.at (subst (λ k. place_of (clauses_in k) (name_at (clauses_in c.args.self.now) c.args.at) ≡ Some c.args.at) (sym c.self.view_is) c.requires.named) in
    let at = at-place _ _ _ _ _ _ c.self.invariant c.args.at c.index.result.now there c.index.ensures in
    omega (arith, at.row)

pub invariant_of-self : goal.invariant_of-self
invariant_of-self c =
    let table = c.self.invariant.table in
    let there = position_within (λ d. bytes_eq (name_at (clauses_in c.args.self.now) c.args.at) d.name) _ c.args.at (subst (λ k. place_of (clauses_in k) (name_at (clauses_in c.args.self.now) c.args.at) ≡ Some c.args.at) (sym c.self.view_is) c.requires.named) in
    let at = at-place _ _ _ _ _ _ c.self.invariant c.args.at c.index.result.now there c.index.ensures in
    let old = row-at _ _ _ _ _ _ c.self.invariant c.index.result.now c.index-2.result.now at.row c.index-2.ensures in
    rw c.clear.ensures.items
    (kept-written _ _ _ _ _ _ c.self.invariant c.args.at c.index.result.now (named_clause (name_at (clauses_in c.args.self.now) c.args.at) c.args.form.now) c.index-2.result.now c.numbered-row.result c.uncount_operands.new.uses.items c.count_operands.new.uses.items
    at.front at.number (sym (row-is c.self.inside.rows.items c.index.result.now c.index-2.result.now old)) (c.numbered-row.ensures (name_at (clauses_in c.args.self.now) c.args.at))
    c.uncount_operands.ensures.len c.uncount_operands.ensures.each c.count_operands.ensures.len c.count_operands.ensures.each)

pub returns : goal.returns
returns c =
    let table = c.self.invariant.table in
    let there = position_within (λ d. bytes_eq (name_at (clauses_in c.args.self.now) c.args.at) d.name) _ c.args.at (subst (λ k. place_of (clauses_in k) (name_at (clauses_in c.args.self.now) c.args.at) ≡ Some c.args.at) (sym c.self.view_is) c.requires.named) in
    let at = at-place _ _ _ _ _ _ c.self.invariant c.args.at c.index.result.now there c.index.ensures in
    clauses-written _ _ _ _ table c.args.at c.index.result.now (named_clause (name_at (clauses_in c.args.self.now) c.args.at) c.args.form.now) c.numbered-row.result at.front at.number
    (subst (λ k. place_of (clauses_in k) (name_at (clauses_in c.args.self.now) c.args.at) ≡ Some c.args.at) (sym c.self.view_is) c.requires.named) (c.numbered-row.ensures (name_at (clauses_in c.args.self.now) c.args.at)) c.requires.operands
    ∙ ap (λ k. set (clauses_in k) c.args.at (named_clause (name_at (clauses_in c.args.self.now) c.args.at) c.args.form.now)) c.self.view_is

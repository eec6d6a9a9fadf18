-- Behind all others a clause goes last, and no operand moves.
use Rattle.std.proofs.Common.{◌≡◌, ◌∷◌, [], ◌++◌, length, map, ap, sym, ◌∙◌}
use Rattle.std.specs.List.{insert}
use Rattle.solid_model.specs.Seen.{clause_seen}
use Rattle.solid_model.specs.Surgery.{moved, up}
use Rattle.solid_model.specs.Tables.{Standing, clauses_in}
use Rattle.solid_model.proofs.table.Table.push.Goals as goal
use Rattle.solid_model.proofs.Lookups.{length-clauses}
use Rattle.solid_model.proofs.PushLemmas.{insert-behind}

pub returns-clause-ok : goal.returns-clause-ok
returns-clause-ok c =
    let order : Standing = record { numbers = c.insert.inside.numbers.items; places = c.insert.inside.places.items } in
    let count = c.insert.inside.count in
    let long = ap (λ k. length (clauses_in k)) (sym c.insert.view_is) ∙ length-clauses order count c.insert.inside.rows.items c.insert.inside.names.keys c.insert.invariant.table in
    let behind : insert (map (moved (up count)) (clauses_in c.args.self.now)) count (clause_seen c.args.clause.now) ≡ (clauses_in c.args.self.now) ++ (clause_seen c.args.clause.now) ∷ [] =
    insert-behind (clauses_in c.args.self.now) (clause_seen c.args.clause.now) count c.requires.in_order long in
    rw behind at c.insert-2.ensures.ok

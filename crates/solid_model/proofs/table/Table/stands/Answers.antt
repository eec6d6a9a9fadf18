-- The number stands exactly where its place is one of the clauses.
use Rattle.solid_model.proofs.table.Table.stands.Goals as goal
use Rattle.std.proofs.Common.{length, subst, sym, ◌<◌}
use Rattle.solid_model.specs.Tables.{Standing}
use Rattle.solid_model.proofs.Lookups.{is_some-stands, place-known}

pub returns-clause-stands : goal.returns-clause-stands
returns-clause-stands c =
    let order : Standing = record { numbers = c.self.inside.numbers.items; places = c.self.inside.places.items } in
    let count = c.self.inside.count in
    let rows = c.self.inside.rows.items in
    let names = c.self.inside.names.keys in
    let n = c.args.number in
    let known : n < length names = subst (λ k. n < length k.names) (sym c.self.view_is) c.requires.known in
    rw (← c.self.view_is) (is_some-stands order count rows names c.self.invariant.table n c.index.result.now known
    (place-known order count rows names c.self.invariant.table n c.index.result.now known c.index.ensures))

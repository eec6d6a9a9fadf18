-- The set finds a number; its clause stands where the number does, or no more.
use Rattle.std.proofs.Common.{◌≡◌, None, Some, sym, arith}
use Rattle.std.specs.List.{position}
use Rattle.std.specs.Str.{bytes_eq}
use Rattle.std.proofs.lemmas.Grind.{common_steps}
use Rattle.solid_model.specs.Tables.{Standing}
use Rattle.solid_model.proofs.table.Table.position.Goals as goal
use Rattle.solid_model.proofs.Lookups.{lookup-behind, lookup-nowhere, lookup-there}

pub returns-in_err-number-clause-place : goal.returns-in_err-number-clause-place
returns-in_err-number-clause-place c =
    let order : Standing = record { numbers = c.self.inside.numbers.items; places = c.self.inside.places.items } in
    let none : position (λ k. bytes_eq c.args.name.now k) c.self.inside.names.keys ≡ None = grind (arith, common_steps) in
    rw (← c.self.view_is, lookup-nowhere order c.self.inside.count c.self.inside.rows.items c.self.inside.names.keys c.self.invariant.table c.args.name.now none) c.from_residual.ensures

pub returns-then-place-self-clause-place : goal.returns-then-place-self-clause-place
returns-then-place-self-clause-place c =
    let order : Standing = record { numbers = c.self.inside.numbers.items; places = c.self.inside.places.items } in
    let found : position (λ k. bytes_eq c.args.name.now k) c.self.inside.names.keys ≡ Some c.in_ok-number.number = grind (arith, common_steps) in
    rw (← c.self.view_is) (sym (lookup-there order c.self.inside.count c.self.inside.rows.items c.self.inside.names.keys c.self.invariant.table c.args.name.now
    c.in_ok-number.number c.index.result.now found c.index.ensures c.if-place-self.true))

pub returns-else-place-self-clause-place : goal.returns-else-place-self-clause-place
returns-else-place-self-clause-place c =
    let order : Standing = record { numbers = c.self.inside.numbers.items; places = c.self.inside.places.items } in
    let found : position (λ k. bytes_eq c.args.name.now k) c.self.inside.names.keys ≡ Some c.in_ok-number.number = grind (arith, common_steps) in
    rw (← c.self.view_is) (sym (lookup-behind order c.self.inside.count c.self.inside.rows.items c.self.inside.names.keys c.self.invariant.table c.args.name.now
    c.in_ok-number.number c.index.result.now found c.index.ensures c.if-place-self.false))

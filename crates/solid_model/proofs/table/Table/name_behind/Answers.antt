-- The name of the clause behind that where the name stands.
use Rattle.std.proofs.Common.{◌≡◌, ◌<◌, ◌≤◌, suc, Some, length, ap, sym, ◌∙◌, arith}
use Rattle.solid_model.specs.Clauses.{place_of}
use Rattle.solid_model.specs.Named.{name_at}
use Rattle.solid_model.specs.Tables.{clauses_in}
use Rattle.solid_model.proofs.InverseLemmas.{name-behind, none-behind}
use Rattle.solid_model.proofs.table.Table.name_behind.Goals as goal

pub returns-in_ok-name : goal.returns-in_ok-name
returns-in_ok-name c =
    let clauses = clauses_in c.args.self.now in
    let place : place_of clauses c.args.name.now ≡ Some c.in-Some.at =
    ap (place_of clauses) (sym c.bytes.ensures.bytes) ∙ sym c.position.ensures.place ∙ c.in-Some.is in
    let within : suc c.in-Some.at < length clauses = omega (arith, c.if-next-len.true, c.len.ensures.len) in
    ap Some (c.in_ok-name.ensures ∙ ap (name_at clauses) (omega arith)) ∙ name-behind clauses c.args.name.now c.in-Some.at place within

pub returns-else-next-len : goal.returns-else-next-len
returns-else-next-len c =
    let clauses = clauses_in c.args.self.now in
    let place : place_of clauses c.args.name.now ≡ Some c.in-Some.at =
    ap (place_of clauses) (sym c.bytes.ensures.bytes) ∙ sym c.position.ensures.place ∙ c.in-Some.is in
    let past : length clauses ≤ suc c.in-Some.at = omega (arith, c.if-next-len.false, c.len.ensures.len) in
    none-behind clauses c.args.name.now c.in-Some.at place past

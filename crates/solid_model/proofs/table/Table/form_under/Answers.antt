-- The form of the clause where the name stands.
use Rattle.std.proofs.Common.{◌≡◌, Some, ap, sym, ◌∙◌}
use Rattle.solid_model.specs.Clauses.{place_of}
use Rattle.solid_model.specs.Tables.{clauses_in}
use Rattle.solid_model.proofs.InverseLemmas.{form-found}
use Rattle.solid_model.proofs.table.Table.form_under.Goals as goal

pub returns : goal.returns
returns c =
    let clauses = clauses_in c.args.self.now in
    let place : place_of clauses c.args.name.now ≡ Some c.in-Some.at =
    ap (place_of clauses) (sym c.bytes.ensures.bytes) ∙ sym c.position.ensures.place ∙ c.in-Some.is in
    form-found clauses c.args.name.now c.in-Some.at c.form.result place c.form.ensures

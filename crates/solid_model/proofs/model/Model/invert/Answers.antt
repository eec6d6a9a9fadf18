-- What the clauses allow by names they allow by places, and the inverse takes it back.
use Rattle.std.proofs.Common.{◌≡◌, IsOk, Ok, Err, Result, IfOk, List, sym, subst}
use Rattle.solid_model.specs.declared.clause.Clause.{Clause}
use Rattle.solid_model.specs.declared.edit.Edit.{Edit}
use Rattle.solid_model.specs.Clauses.{IsModel}
use Rattle.solid_model.specs.Edits.{edited, IsEdit}
use Rattle.solid_model.specs.Inverses.{inverse_of}
use Rattle.solid_model.specs.Tables.{clauses_in}
use Rattle.solid_model.proofs.ChangeLemmas.{edited-surgery}
use Rattle.solid_model.proofs.InverseLemmas.{taken-back}
use Rattle.solid_model.proofs.model.Model.invert.Goals as goal

pub inverse-requires-clause-accepted : goal.inverse-requires-clause-accepted
inverse-requires-clause-accepted c =
    subst IsOk (edited-surgery (clauses_in c.self.inside.table) c.args.edit.now c.self.invariant.clauses_are c.holds.ensures)
    (subst (λ clauses. IsOk (edited clauses c.args.edit.now)) (sym c.self.view_is) c.requires)

-- an answer that is the inverse takes the edit back
takes : {E : Type 0} (clauses : List Clause) (edit : Edit) (r : Result Edit E) → IsModel clauses → IsEdit edit → IfOk r (λ inverse. inverse ≡ inverse_of clauses edit)
    → IfOk r (λ inverse. (new : List Clause) → edited clauses edit ≡ Ok new → edited new inverse ≡ Ok clauses)
takes clauses edit (Ok inverse) model ok is = λ new made. rw is ((taken-back clauses edit new model ok made).back)
takes clauses edit (Err fault) model ok is = tt

pub returns-clause-back : goal.returns-clause-back
returns-clause-back c =
    rw (← c.self.view_is) (takes (clauses_in c.self.inside.table) c.args.edit.now c.inverse.result c.self.invariant c.holds.ensures c.inverse.ensures)

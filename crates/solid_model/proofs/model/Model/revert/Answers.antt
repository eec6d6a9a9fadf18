-- What takes a change back is an edit that the model accepts.
use Rattle.std.proofs.Common.{◌≡◌, Ok, Err, Result, OnOk, OnErr, List, sym, subst}
use Rattle.solid_model.specs.declared.clause.Clause.{Clause}
use Rattle.solid_model.specs.Clauses.{IsModel}
use Rattle.solid_model.specs.Reversals.{edit_back, reverted, AllowsBack}
use Rattle.solid_model.specs.Tables.{clauses_in}
use Rattle.solid_model.proofs.ReversalLemmas.{edit-back-accepted}
use Rattle.solid_model.proofs.SurgeryModels.{edits-models}
use Rattle.solid_model.proofs.model.Model.revert.Goals as goal

pub invariant_of-self : goal.invariant_of-self
invariant_of-self c =
    let clauses = clauses_in c.self.inside.table in
    let allowed = subst (λ cs. AllowsBack cs c.args.back.now) (sym c.self.view_is) c.requires in
    let made = edit-back-accepted clauses c.args.back.now c.self.invariant allowed in
    stays c.revert.result c.self.invariant
    (edits-models clauses (edit_back clauses c.args.back.now) (reverted clauses c.args.back.now) c.self.invariant.clauses_are made.0 made.1)
    c.revert.ensures.ok c.revert.ensures.err
  where
    stays : {A E : Type 0} {old new back : List Clause} (r : Result A E) → IsModel old → IsModel back → OnOk r (new ≡ back) → OnErr r (new ≡ old) → IsModel new
    stays (Ok done) was is ok err = subst IsModel (sym ok) is
    stays (Err fault) was is ok err = subst IsModel (sym err) was

pub returns-clause-edit : goal.returns-clause-edit
returns-clause-edit c =
    let clauses = clauses_in c.self.inside.table in
    let allowed = subst (λ cs. AllowsBack cs c.args.back.now) (sym c.self.view_is) c.requires in
    rw (← c.self.view_is) ((edit-back-accepted clauses c.args.back.now c.self.invariant allowed).1)

-- The table of one clause is a model, its form has no argument, and adding by places is the edit by names.
use Rattle.std.proofs.Common.{◌≡◌, [], Ok, Err, IsOk, subst, ◌∙◌, arith}
use Rattle.std.proofs.lemmas.Grind.{common_steps}
use Rattle.solid_model.specs.declared.edit.Edit.TheVariants.{Add}
use Rattle.solid_model.specs.Adding.{added}
use Rattle.solid_model.proofs.ChangeLemmas.{edited-not-undo, first-fault}
use Rattle.solid_model.proofs.ModelLemmas.{AreClauses-nil, IsModel-added, no_argument}
use Rattle.solid_model.proofs.NamedLemmas.{edited-added}
use Rattle.solid_model.proofs.model.Model.first.Goals as goal
use Rattle.solid_model.specs.Tables.{clauses_in}

pub invariant_of-result : goal.invariant_of-result
invariant_of-result c =
    let made : added [] c.args.name c.args.form ≡ Ok (clauses_in c.apply.new.self) = grind (arith, common_steps) in
    IsModel-added [] c.args.name c.args.form _ AreClauses-nil (rw c.lent.ensures at c.apply.ensures.edit).0 (rw c.lent.ensures at c.apply.ensures.edit).1 made

pub returns-in-Ok-clause-ok : goal.returns-in-Ok-clause-ok
returns-in-Ok-clause-ok c =
    let made : added [] c.args.name c.args.form ≡ Ok (clauses_in c.apply.new.self) = grind (arith, common_steps) in
    edited-added [] c.args.name c.args.form AreClauses-nil (rw c.lent.ensures at c.apply.ensures.edit).1 ∙ made

pub returns-in-Ok-clause-no_argument : goal.returns-in-Ok-clause-no_argument
returns-in-Ok-clause-no_argument c =
    let made : added [] c.args.name c.args.form ≡ Ok (clauses_in c.apply.new.self) = grind (arith, common_steps) in
    no_argument c.args.name c.args.form _ made

pub returns-in-Err-clause-fault : goal.returns-in-Err-clause-fault
returns-in-Err-clause-fault c =
    λ h. edited-added [] c.args.name c.args.form AreClauses-nil (rw c.lent.ensures at c.apply.ensures.edit).1
    ∙ subst (λ before. added before c.args.name c.args.form ≡ Err c.in-Err.fault) c.new-table.ensures (rw c.lent.ensures at c.in-Err.ensures.fault h)

pub returns-in-Err-clause-no_memory : goal.returns-in-Err-clause-no_memory
returns-in-Err-clause-no_memory c =
    rw (edited-added [] c.args.name c.args.form AreClauses-nil (rw c.lent.ensures at c.apply.ensures.edit).1)
    (λ h. subst (λ before. IsOk (added before c.args.name c.args.form)) c.new-table.ensures (rw c.lent.ensures at c.in-Err.ensures.no_memory h))

pub returns-in-Err-clause-argument : goal.returns-in-Err-clause-argument
returns-in-Err-clause-argument c =
    λ h. first-fault c.args.name c.args.form c.in-Err.fault
    (subst (λ before. added before c.args.name c.args.form ≡ Err c.in-Err.fault) c.new-table.ensures (rw c.lent.ensures at c.in-Err.ensures.fault h))

pub returns-in-Err-clause-not_undo : goal.returns-in-Err-clause-not_undo
returns-in-Err-clause-not_undo c =
    λ is. edited-not-undo [] (Add c.args.name c.args.form) c.in-Err.fault
    (edited-added [] c.args.name c.args.form AreClauses-nil (rw c.lent.ensures at c.apply.ensures.edit).1
    ∙ subst (λ before. added before c.args.name c.args.form ≡ Err c.in-Err.fault) c.new-table.ensures (rw c.lent.ensures at c.in-Err.ensures.fault (λ memory. (cc)))) is

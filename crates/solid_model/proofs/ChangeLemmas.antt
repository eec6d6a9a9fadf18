-- Edits by places are edits by names.
use Rattle.std.proofs.Common.{◌≡◌, ◌≢◌, ℕ, Bool, true, false, cond, [], ◌∷◌, List, Option, None, Some, Result, Ok, Err, IfErr, refl, ap, ◌∙◌}
use Rattle.std.specs.List.{position}
use Rattle.std.specs.Option.{option_map_or}
use Rattle.solid_model.specs.declared.clause.Clause.{Clause}
use Rattle.solid_model.specs.declared.edit.Edit.{Edit}
use Rattle.solid_model.specs.declared.edit.Edit.TheVariants.{Set, Add, Put, Cut}
use Rattle.solid_model.specs.declared.edit.EditFault.TheVariants.{UnknownName, DoubleName, NotEarlier, InUse, LastClause, Full, NoMemory, NothingToUndo}
use Rattle.solid_model.specs.declared.edit.EditFault.{EditFault}
use Rattle.solid_model.specs.Adding.{added}
use Rattle.solid_model.specs.Parts.{Parts}
use Rattle.solid_model.specs.Changes.{surgery}
use Rattle.solid_model.specs.Clauses.{AreClauses, IsModel}
use Rattle.solid_model.specs.Edits.{changed, edited, has_argument, resolved, IsEdit}
use Rattle.solid_model.specs.Named.{Named, named_of}
use Rattle.solid_model.specs.Refusals.{RefusesAs}
use Rattle.solid_model.proofs.ModelLemmas.{IsModel-added}
use Rattle.solid_model.proofs.NamedLemmas.{edited-added}
use Rattle.solid_model.proofs.SurgeryLemmas.{edited-cut, edited-formed, edited-put}
use Rattle.solid_model.proofs.SurgeryModels.{models-formed, models-put_in, models-taken_out}

pub edited-surgery : (clauses : List Clause) (edit : Edit) → AreClauses clauses → IsEdit edit → edited clauses edit ≡ surgery clauses edit
edited-surgery clauses (Set name form) are is = edited-formed clauses name form are is.1
edited-surgery clauses (Add name form) are is = edited-added clauses name form are is.1
edited-surgery clauses (Put next name form) are is = edited-put clauses next name form are is.1
edited-surgery clauses (Cut name) are is = edited-cut clauses name are

pub models-surgery : (clauses : List Clause) (edit : Edit) (new : List Clause) → AreClauses clauses → IsEdit edit → surgery clauses edit ≡ Ok new → IsModel new
models-surgery clauses (Set name form) new are is e = models-formed clauses name form new are is.0 is.1 e
models-surgery clauses (Add name form) new are is e = IsModel-added clauses name form new are is.0 is.1 e
models-surgery clauses (Put next name form) new are is e = models-put_in clauses next name form new are is.0 is.1 e
models-surgery clauses (Cut name) new are is e = models-taken_out clauses name new are e

-- a first clause is refused for its arguments alone
pub first-fault : (name : List ℕ) (form : Parts) (fault : EditFault) → added [] name form ≡ Err fault → (fault ≡ UnknownName) × (form.args ≢ [])
first-fault name form fault e = by form.args refl
  where
    by : (args : List (List ℕ)) → form.args ≡ args → (fault ≡ UnknownName) × (form.args ≢ [])
    by [] is = let gives = rw is at e in (cc)
    by (x ∷ args) is = let gives = rw is at e in ((cc), λ h. (cc))

-- no edit is refused because there is none to take back
not-undo-if : {A : Type 0} (b : Bool) (fault : EditFault) (r : Result A EditFault) → fault ≢ NothingToUndo → r ≢ Err NothingToUndo → cond b (Err fault) r ≢ Err NothingToUndo
not-undo-if true fault r other rest = λ e. other (cc)
not-undo-if false fault r other rest = rest

not-undo-used : {A : Type 0} (user : Option ℕ) (r : Result A EditFault) → r ≢ Err NothingToUndo → option_map_or (λ at. Err (InUse at)) user r ≢ Err NothingToUndo
not-undo-used None r rest = rest
not-undo-used (Some at) r rest = λ e. (cc)

not-undo-ok : {A : Type 0} (x : A) → Ok x ≢ Err NothingToUndo
not-undo-ok x = λ e. (cc)

changed-not-undo : (clauses : List Named) (edit : Edit) → changed clauses edit ≢ Err NothingToUndo
changed-not-undo clauses (Set name form) = not-undo-if _ UnknownName _ (λ e. (cc)) (not-undo-if _ NotEarlier _ (λ e. (cc)) (not-undo-ok _))
changed-not-undo clauses (Add name form) =
    not-undo-if _ UnknownName _ (λ e. (cc)) (not-undo-if _ DoubleName _ (λ e. (cc)) (not-undo-if _ Full _ (λ e. (cc)) (not-undo-ok _)))
changed-not-undo clauses (Put next name form) =
    not-undo-if _ UnknownName _ (λ e. (cc))
    (not-undo-if _ DoubleName _ (λ e. (cc)) (not-undo-if _ NotEarlier _ (λ e. (cc)) (not-undo-if _ Full _ (λ e. (cc)) (not-undo-ok _))))
changed-not-undo clauses (Cut name) =
    not-undo-if _ UnknownName _ (λ e. (cc)) (not-undo-used (position (has_argument name) clauses) _ (not-undo-if _ LastClause _ (λ e. (cc)) (not-undo-ok _)))

resolved-not-undo : (r : Result (List Named) EditFault) → r ≢ Err NothingToUndo → resolved r ≢ Err NothingToUndo
resolved-not-undo (Ok new) other = λ e. (cc)
resolved-not-undo (Err fault) other = λ e. other (cc)

pub edited-not-undo : (clauses : List Clause) (edit : Edit) (fault : EditFault) → edited clauses edit ≡ Err fault → fault ≢ NothingToUndo
edited-not-undo clauses edit fault e =
    λ is. resolved-not-undo (changed (named_of clauses) edit) (changed-not-undo (named_of clauses) edit) (e ∙ ap Err is)

pub not-undo : {A : Type 0} (clauses : List Clause) (edit : Edit) (result : Result A EditFault) → RefusesAs (edited clauses edit) NoMemory result
    → IfErr result (λ fault. fault ≢ NothingToUndo)
not-undo clauses edit (Ok done) refuses = tt
not-undo clauses edit (Err fault) refuses = λ is. edited-not-undo clauses edit fault (refuses (λ memory. (cc))) is

-- The edits that take others back are accepted, each in its turn.
use Rattle.std.proofs.Common.{◌≡◌, List, [], ◌∷◌, ◌++◌, refl, ap, sym, subst, ◌∙◌}
use Rattle.std.specs.Prelude.{IsOk}
use Rattle.solid_model.specs.declared.clause.Clause.{Clause}
use Rattle.solid_model.specs.declared.edit.Edit.{Edit}
use Rattle.solid_model.specs.declared.reversal.Reversal.{Reversal}
use Rattle.solid_model.specs.Clauses.{IsModel}
use Rattle.solid_model.specs.Edited.{after_edits, given_or, AreAccepted}
use Rattle.solid_model.specs.Edits.{edited}
use Rattle.solid_model.specs.Reversals.{edit_back, edits_back, reverted, AllowBack}
use Rattle.solid_model.proofs.ReversalLemmas.{edit-back-accepted}
use Rattle.solid_model.proofs.SurgeryModels.{edits-models}

pub all-accepted : (clauses : List Clause) (rs : List Reversal) → IsModel clauses → AllowBack clauses rs → AreAccepted clauses (edits_back clauses rs)
unfolding edits_back after_edits AllowBack
all-accepted clauses [] model are [] edit after parts = (cc)
all-accepted clauses [] model are (b ∷ bs) edit after parts = (cc)
all-accepted clauses (r ∷ rs) model are [] edit after parts =
    let same : edit_back clauses r ≡ edit = (cc) in
    let back = (edit-back-accepted clauses r model are.0).1 in
    subst (λ (e : Edit). IsOk (edited clauses e)) same (rw back refl)
all-accepted clauses (r ∷ rs) model are (b ∷ bs) edit after parts =
    let same : edit_back clauses r ≡ b = (cc) in
    let others : edits_back (reverted clauses r) rs ≡ bs ++ edit ∷ after = (cc) in
    let back = edit-back-accepted clauses r model are.0 in
    let given = ap (λ (e : Edit). given_or clauses (edited clauses e)) (sym same) ∙ ap (given_or clauses) back.1 in
    let next = edits-models clauses (edit_back clauses r) (reverted clauses r) model.clauses_are back.0 back.1 in
    subst (λ cs. IsOk (edited (after_edits cs bs) edit)) (sym given) (all-accepted (reverted clauses r) rs next are.1 bs edit after others)

-- The latest is allowed, and leads to where the others are.
use Rattle.std.proofs.Common.{◌≡◌, ◌-◌, List, Result, Ok, Err, OnErr, Some, length, take, reverse, slice_get, ap, refl, sym, ◌∙◌}
use Rattle.std.specs.Option.{option_copied}
use Rattle.solid_model.specs.declared.reversal.Reversal.{Reversal}
use Rattle.solid_model.specs.Reversals.{edits_back}
use Rattle.solid_model.proofs.ReversalLemmas.{latest-allowed, latest-makes, latest-undone, none-left, others-allowed, undone-opening}
use Rattle.solid_model.proofs.edited_model.EditedModel.undo.Goals as goal

pub returns-in_default-clause-none : goal.returns-in_default-clause-none
unfolding edits_back
returns-in_default-clause-none c = λ h.
    let empty = none-left c.self.inside.backs.items
    (ap (λ (xs : List Reversal). slice_get xs (length xs - 1)) (sym c.deref.ensures.value) ∙ sym c.last.ensures.value ∙ ap option_copied c.in_default.is) in
    (rw (← c.self.view_is) (ap (λ (xs : List Reversal). edits_back c.self.inside.model (reverse xs)) empty), refl)

pub returns-in_err-revert-clause-memory : goal.returns-in_err-revert-clause-memory
returns-in_err-revert-clause-memory c =
    let latest : slice_get c.self.inside.backs.items (length c.self.inside.backs.items - 1) ≡ Some c.in-Some.back.now =
    ap (λ (xs : List Reversal). slice_get xs (length xs - 1)) (sym c.deref.ensures.value) ∙ sym c.last.ensures.value ∙ ap option_copied c.in-Some.is in
    on-err c.from_residual.result (rw (← c.self.view_is) (latest-makes c.self.inside.model c.self.inside.backs.items c.in-Some.back.now latest c.in_err-revert.ensures.makes))
  where
    on-err : {A E P : Type 0} (r : Result A E) → P → OnErr r P
    on-err (Ok done) p = tt
    on-err (Err fault) p = p

pub revert-requires : goal.revert-requires
revert-requires c =
    let latest : slice_get c.self.inside.backs.items (length c.self.inside.backs.items - 1) ≡ Some c.in-Some.back.now =
    ap (λ (xs : List Reversal). slice_get xs (length xs - 1)) (sym c.deref.ensures.value) ∙ sym c.last.ensures.value ∙ ap option_copied c.in-Some.is in
    (latest-allowed c.self.inside.model c.self.inside.backs.items c.in-Some.back.now latest c.self.invariant).0

pub invariant_of-self-2 : goal.invariant_of-self-2
invariant_of-self-2 c =
    let xs = c.self.inside.backs.items in
    let latest : slice_get c.self.inside.backs.items (length c.self.inside.backs.items - 1) ≡ Some c.in-Some.back.now =
    ap (λ (xs : List Reversal). slice_get xs (length xs - 1)) (sym c.deref.ensures.value) ∙ sym c.last.ensures.value ∙ ap option_copied c.in-Some.is in
    let rest : c.pop.new.self.items ≡ take (length c.self.inside.backs.items - 1) c.self.inside.backs.items =
    c.pop.ensures.rest ∙ ap (λ n. take (n - 1) c.self.inside.backs.items) (sym c.deref.ensures.len ∙ ap length c.deref.ensures.value) in
    others-allowed c.self.inside.model c.self.inside.backs.items c.in-Some.back.now latest c.revert.new.self c.pop.new.self.items rest c.in_ok-revert.ensures.ok c.self.invariant

pub returns-clause-undone : goal.returns-clause-undone
returns-clause-undone c = λ h.
    let latest : slice_get c.self.inside.backs.items (length c.self.inside.backs.items - 1) ≡ Some c.in-Some.back.now =
    ap (λ (xs : List Reversal). slice_get xs (length xs - 1)) (sym c.deref.ensures.value) ∙ sym c.last.ensures.value ∙ ap option_copied c.in-Some.is in
    let rest : c.pop.new.self.items ≡ take (length c.self.inside.backs.items - 1) c.self.inside.backs.items =
    c.pop.ensures.rest ∙ ap (λ n. take (n - 1) c.self.inside.backs.items) (sym c.deref.ensures.len ∙ ap length c.deref.ensures.value) in
    rw (← c.self.view_is)
    (latest-undone c.self.inside.model c.self.inside.backs.items c.in-Some.back.now latest c.revert.new.self c.pop.new.self.items rest c.in_ok-revert.ensures.ok c.revert.ensures.edit)

pub returns-clause-opening : goal.returns-clause-opening
returns-clause-opening c =
    let latest : slice_get c.self.inside.backs.items (length c.self.inside.backs.items - 1) ≡ Some c.in-Some.back.now =
    ap (λ (xs : List Reversal). slice_get xs (length xs - 1)) (sym c.deref.ensures.value) ∙ sym c.last.ensures.value ∙ ap option_copied c.in-Some.is in
    let rest : c.pop.new.self.items ≡ take (length c.self.inside.backs.items - 1) c.self.inside.backs.items =
    c.pop.ensures.rest ∙ ap (λ n. take (n - 1) c.self.inside.backs.items) (sym c.deref.ensures.len ∙ ap length c.deref.ensures.value) in
    rw (← c.self.view_is)
    (undone-opening c.self.inside.model c.self.inside.backs.items c.in-Some.back.now latest c.revert.new.self c.pop.new.self.items rest c.in_ok-revert.ensures.ok c.revert.ensures.edit)

-- Where the kept steps stand in the live list, and that the live list is a list of steps.
use Rattle.std.proofs.Common.{◌≡◌, ℕ, zero, suc, ◌+◌, ◌<◌, ◌≤◌, true, false, cond, ltb, List, [], ◌∷◌, ◌++◌, length, slice_get, Some, inl, inr, refl, ap, sym, subst, ◌∙◌, arith}
use Rattle.std.proofs.lemmas.List.{length-append, append-nil}
use Rattle.std.proofs.lemmas.Bool.{cases_lt, cases_Bool}
use Rattle.std.proofs.lemmas.Bool.Decides.{Decides-ltb}
use Rattle.fixed_ops.specs.Arity.{arity_of}
use Rattle.interval_ops.specs.declared.choice.Choice.{Choice}
use Rattle.live_clauses.specs.declared.step.Step.{Step}
use Rattle.live_clauses.specs.Choices.{step_at}
use Rattle.live_clauses.specs.Live.{is_kept, kept_below, new_place, renumbered, live_below}
use Rattle.live_clauses.specs.Steps.{IsStepAt}
use Rattle.fixed_ops.proofs.Lists.{slice_get-front}

slice_get-last : {A : Type 0} (xs : List A) (k : ℕ) (x : A) → length xs ≡ k → slice_get (xs ++ x ∷ []) k ≡ Some x
slice_get-last [] zero x is = refl
slice_get-last [] (suc k) x is = absurd (omega arith)
slice_get-last (y ∷ xs) zero x is = absurd (omega arith)
slice_get-last (y ∷ xs) (suc k) x is = slice_get-last xs k x (omega arith)

module _ (steps : List Step) (choices : List Choice) where
  -- one more place, by whether its step is kept
  pub kept_below-kept : (place : ℕ) → is_kept steps choices place ≡ true → kept_below steps choices (suc place) ≡ kept_below steps choices place + 1
  kept_below-kept place kept = ap (λ b. kept_below steps choices place + cond b 1 0) kept

  pub kept_below-dropped : (place : ℕ) → is_kept steps choices place ≡ false → kept_below steps choices (suc place) ≡ kept_below steps choices place
  kept_below-dropped place dropped = ap (λ b. kept_below steps choices place + cond b 1 0) dropped ∙ omega arith

  kept_below-grows : (place : ℕ) → kept_below steps choices place ≤ kept_below steps choices (suc place)
  kept_below-grows place = omega arith

  pub kept_below-later : (m n : ℕ) → m ≤ n → kept_below steps choices m ≤ kept_below steps choices n
  kept_below-later m zero less = let is : m ≡ 0 = omega arith in rw is (omega arith)
  kept_below-later m (suc n) less =
      elim (cases_lt n m) [
        | inl more ↦ let is : m ≡ suc n = omega arith in rw is (omega arith)
        | inr fewer ↦ omega (arith, kept_below-later m n fewer, kept_below-grows n)
      ]

  -- a kept step has a number below the count of later places
  pub kept_below-less : (m n : ℕ) → is_kept steps choices m ≡ true → m < n → kept_below steps choices m < kept_below steps choices n
  kept_below-less m n kept less = omega (arith, kept_below-kept m kept, kept_below-later (suc m) n less)

  pub kept_below-le : (n : ℕ) → kept_below steps choices n ≤ n
  kept_below-le zero = omega arith
  kept_below-le (suc n) =
      elim (cases_Bool (is_kept steps choices n)) [
        | inl kept ↦ omega (arith, kept_below-kept n kept, kept_below-le n)
        | inr dropped ↦ omega (arith, kept_below-dropped n dropped, kept_below-le n)
      ]

  -- the list so far, by whether a step is kept
  pub live_below-kept : (place : ℕ) → is_kept steps choices place ≡ true
      → live_below steps choices (suc place) ≡ live_below steps choices place ++ renumbered (new_place steps choices) (step_at steps place) ∷ []
  live_below-kept place kept = ap (λ b. live_below steps choices place ++ cond b (renumbered (new_place steps choices) (step_at steps place) ∷ []) []) kept

  pub live_below-dropped : (place : ℕ) → is_kept steps choices place ≡ false → live_below steps choices (suc place) ≡ live_below steps choices place
  live_below-dropped place dropped =
      ap (λ b. live_below steps choices place ++ cond b (renumbered (new_place steps choices) (step_at steps place) ∷ []) []) dropped ∙ append-nil _

  pub length-live_below : (n : ℕ) → length (live_below steps choices n) ≡ kept_below steps choices n
  length-live_below zero = refl
  length-live_below (suc n) =
      elim (cases_Bool (is_kept steps choices n)) [
        | inl kept ↦
            let one = renumbered (new_place steps choices) (step_at steps n) in
            ap length (live_below-kept n kept) ∙ omega (arith, length-append (live_below steps choices n) (one ∷ []), length-live_below n, kept_below-kept n kept)
        | inr dropped ↦ ap length (live_below-dropped n dropped) ∙ length-live_below n ∙ sym (kept_below-dropped n dropped)
      ]

  -- a kept step stands at its number
  pub live_below-at : (n place : ℕ) → place < n → is_kept steps choices place ≡ true
      → slice_get (live_below steps choices n) (kept_below steps choices place) ≡ Some (renumbered (new_place steps choices) (step_at steps place))
  live_below-at zero place less kept = absurd (omega arith)
  live_below-at (suc n) place less kept =
      elim (cases_lt place n) [
        | inl before ↦ slice_get-front (live_below steps choices n) _ _ _ (live_below-at n place before kept)
        | inr is_last ↦
            let same : place ≡ n = omega arith in
            let here : is_kept steps choices n ≡ true = subst (λ k. is_kept steps choices k ≡ true) same kept in
            rw same (rw (live_below-kept n here) (slice_get-last (live_below steps choices n) _ _ (length-live_below n)))
      ]

  -- each number is that of a kept step
  pub kept_at : (n at : ℕ) → at < kept_below steps choices n → (place : ℕ) × (place < n) × (is_kept steps choices place ≡ true) × (kept_below steps choices place ≡ at)
  kept_at zero at less = absurd (omega arith)
  kept_at (suc n) at less =
      elim (cases_Bool (is_kept steps choices n)) [
        | inl kept ↦
            elim (cases_lt at (kept_below steps choices n)) [
              | inl before ↦ let found = kept_at n at before in (found.0, omega (arith, found.1), found.2, found.3)
              | inr is_last ↦ (n, omega arith, kept, omega (arith, kept_below-kept n kept))
            ]
        | inr dropped ↦ let found = kept_at n at (omega (arith, kept_below-dropped n dropped)) in (found.0, omega (arith, found.1), found.2, found.3)
      ]

pub not_less : (m n : ℕ) → n ≤ m → ltb m n ≡ false
not_less m n most = elim (cases_Bool (ltb m n)) [ inl less ↦ absurd (omega (arith, (Decides-ltb m n).0 less)) | inr is ↦ is ]

-- the operands of a step that is renumbered
pub renumbered-fits : (at : ℕ) (step : Step) (new : ℕ → ℕ) → (0 < arity_of step.op → new step.a < at) → (1 < arity_of step.op → new step.b < at)
    → (place : ℕ) → IsStepAt place step → IsStepAt at (renumbered new step)
renumbered-fits at step new first second place stands = record {
  raw = stands.raw;
  fits = record {
    first = λ has. rw ((Decides-ltb 0 (arity_of step.op)).1 has) (first has);
    second = λ has. rw ((Decides-ltb 1 (arity_of step.op)).1 has) (second has);
    no_first = λ none. ap (λ b. cond b (new step.a) 0) (ap (λ n. ltb 0 n) none);
    no_second = λ none. ap (λ b. cond b (new step.b) 0) (not_less 1 (arity_of step.op) none);
    no_value = stands.fits.no_value;
  };
}

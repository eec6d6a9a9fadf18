-- What always holds of the meanings of a list: each is its step's, made of the meanings of the list itself.
use Rattle.std.proofs.Common.{◌≡◌, ℕ, zero, suc, ◌+◌, ◌<◌, ℤ, List, [], ◌∷◌, ◌++◌, length, get_or, fold, Some, slice_get, inl, inr, refl, ap, sym, subst, ◌∙◌, arith}
use Rattle.std.proofs.lemmas.Bool.{cases_lt}
use Rattle.std.proofs.lemmas.List.{length-append, get_or_append_left}
use Rattle.std.proofs.Math.Seq.{get_or-append_seam}
use Rattle.fixed_ops.specs.Arity.{arity_of}
use Rattle.fixed_ops.specs.declared.operation.Op.{Op}
use Rattle.live_clauses.specs.declared.step.Step.{Step}
use Rattle.live_clauses.specs.Meanings.{Meaning, ReadsItsOperands, meaning_after, meaning_at, meanings}
use Rattle.live_clauses.specs.Steps.{IsStepAt, AreSteps}

module _ {D : Type 0} (m : Meaning D) (reads : ReadsItsOperands m) where
  -- an operation means the same of operands that agree where it has them
  pub step-same : (op : Op) (constant : ℤ) (a b x y : D) → (0 < arity_of op → a ≡ x)
      → (1 < arity_of op → b ≡ y) → m.step op constant a b ≡ m.step op constant x y
  step-same op constant a b x y first second =
      elim (cases_lt 0 (arity_of op)) [
        | inl some ↦ ap (λ d. m.step op constant d b) (first some)
            ∙ elim (cases_lt 1 (arity_of op)) [
              | inl two ↦ ap (m.step op constant x) (second two)
              | inr few ↦ reads.no_second op constant x b y few
            ]
        | inr none ↦ reads.no_first op constant a b x (omega (arith, none))
            ∙ reads.no_second op constant x b y (omega (arith, none))
      ]

  -- a step has one meaning over lists that agree before its place
  meaning_after-same : (xs ys : List D) (place : ℕ) (step : Step) → IsStepAt place step
      → ((k : ℕ) → k < place → get_or xs k m.absent ≡ get_or ys k m.absent)
      → meaning_after m xs step ≡ meaning_after m ys step
  meaning_after-same xs ys place step stands agree =
      step-same step.op step.value _ _ _ _ (λ h. agree step.a (stands.fits.first h))
      (λ h. agree step.b (stands.fits.second h))

  -- the meanings after those of earlier steps
  abbrev meanings_from : List D → List Step → List D
  meanings_from earlier steps =
      fold (λ before step. before ++ meaning_after m before step ∷ []) earlier steps

  length-meanings_from : (earlier : List D) (steps : List Step)
      → length (meanings_from earlier steps) ≡ length earlier + length steps
  length-meanings_from earlier [] = omega arith
  length-meanings_from earlier (s ∷ steps) =
      omega (
        arith,
        length-meanings_from (earlier ++ meaning_after m earlier s ∷ []) steps,
        length-append earlier (meaning_after m earlier s ∷ []),
      )

  -- earlier meanings stay
  get_or-meanings_from : (earlier : List D) (steps : List Step) (k : ℕ) → k < length earlier
      → get_or (meanings_from earlier steps) k m.absent ≡ get_or earlier k m.absent
  get_or-meanings_from earlier [] k h = refl
  get_or-meanings_from earlier (s ∷ steps) k h =
      let v = meaning_after m earlier s in
      get_or-meanings_from (earlier ++ v ∷ []) steps k
      (omega (arith, length-append earlier (v ∷ [])))
      ∙ get_or_append_left earlier (v ∷ []) m.absent k h

  -- each later step's meaning is what it makes of the whole list
  meaning-meanings_from : (earlier : List D) (steps : List Step) (place : ℕ) (step : Step)
      → ((k : ℕ) (s : Step) → slice_get steps k ≡ Some s → IsStepAt (length earlier + k) s)
      → slice_get steps place ≡ Some step
      → get_or (meanings_from earlier steps) (length earlier + place) m.absent
      ≡ meaning_after m (meanings_from earlier steps) step
  meaning-meanings_from earlier [] place step stand at = (cc)
  meaning-meanings_from earlier (s ∷ steps) zero step stand at =
      let v = meaning_after m earlier s in
      let all = meanings_from (earlier ++ v ∷ []) steps in
      let longer = length-append earlier (v ∷ []) in
      let here : get_or all (length earlier) m.absent ≡ v =
      get_or-meanings_from (earlier ++ v ∷ []) steps (length earlier) (omega arith)
      ∙ get_or-append_seam earlier v [] m.absent in
      let stands : IsStepAt (length earlier) s =
      subst (λ n. IsStepAt n s) (omega arith) (stand 0 s refl) in
      let whole : v ≡ meaning_after m all s =
      meaning_after-same earlier all (length earlier) s stands
      (λ k h. sym (get_or-meanings_from earlier (s ∷ steps) k h)) in
      let is : s ≡ step = (cc) in
      let there : length earlier + 0 ≡ length earlier = omega arith in
      rw there (here ∙ whole ∙ ap (meaning_after m all) is)
  meaning-meanings_from earlier (s ∷ steps) (suc place) step stand at =
      let v = meaning_after m earlier s in
      let longer = length-append earlier (v ∷ []) in
      let there : length earlier + suc place ≡ length (earlier ++ v ∷ []) + place = omega arith in
      rw there (meaning-meanings_from (earlier ++ v ∷ []) steps place step
      (λ k d h. subst (λ n. IsStepAt n d) (omega arith) (stand (suc k) d h)) at)

  -- there are as many meanings as steps
  pub length-meanings : (steps : List Step) → length (meanings m steps) ≡ length steps
  length-meanings steps = omega (arith, length-meanings_from [] steps)

  -- the meaning of the step at a place is what it makes of the meanings of its operands
  pub meaning_at-step : (steps : List Step) (place : ℕ) (step : Step) → AreSteps steps
      → slice_get steps place ≡ Some step
      → meaning_at m steps place ≡ m.step step.op step.value (meaning_at m steps step.a)
      (meaning_at m steps step.b)
  meaning_at-step steps place step stand at =
      let made = meaning-meanings_from [] steps place step
      (λ k s h. subst (λ n. IsStepAt n s) (omega arith) (stand k s h)) at in
      let start : 0 + place ≡ place = omega arith in
      rw start at made

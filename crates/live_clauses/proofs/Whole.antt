-- Where every step is kept, the live list is the list.
use Rattle.std.proofs.Common.{◌≡◌, ℕ, zero, suc, ◌+◌, ◌<◌, ◌≤◌, true, cond, ltb, List, [], ◌∷◌, ◌++◌, length, take, ◌-◌, inl, inr, refl, ap, sym, subst, ◌∙◌, add-one, arith}
use Rattle.std.proofs.lemmas.List.{take_more, take_all}
use Rattle.std.proofs.lemmas.Bool.{cases_lt, cases_Bool}
use Rattle.std.proofs.lemmas.Bool.Decides.{Decides-ltb}
use Rattle.fixed_ops.specs.Arity.{arity_of}
use Rattle.interval_ops.specs.declared.choice.Choice.{Choice}
use Rattle.live_clauses.specs.declared.step.Step.{Step}
use Rattle.live_clauses.specs.Choices.{step_at, AreChoices}
use Rattle.live_clauses.specs.Live.{is_kept, kept_below, new_place, renumbered, live_below, live_of}
use Rattle.live_clauses.specs.Steps.{IsStepAt, IsTape}
use Rattle.live_clauses.proofs.Representatives.{step_at-stands, representative_both}
use Rattle.live_clauses.proofs.Needs.{kept_keeps}
use Rattle.live_clauses.proofs.Kept.{kept_below-kept, kept_below-dropped, kept_below-le, live_below-kept, not_less}

-- a step whose operands keep their numbers
renumbered-own : (place : ℕ) (step : Step) (new : ℕ → ℕ) → IsStepAt place step → (0 < arity_of step.op → new step.a ≡ step.a) → (1 < arity_of step.op → new step.b ≡ step.b)
    → renumbered new step ≡ step
renumbered-own place step new stands first second =
    let one : cond (ltb 0 (arity_of step.op)) (new step.a) 0 ≡ step.a =
    elim (cases_lt 0 (arity_of step.op)) [
      | inl has ↦ ap (λ b. cond b (new step.a) 0) ((Decides-ltb 0 (arity_of step.op)).1 has) ∙ first has
      | inr none ↦ ap (λ b. cond b (new step.a) 0) (not_less 0 (arity_of step.op) none) ∙ sym (stands.fits.no_first (omega arith))
    ] in
    let two : cond (ltb 1 (arity_of step.op)) (new step.b) 0 ≡ step.b =
    elim (cases_lt 1 (arity_of step.op)) [
      | inl has ↦ ap (λ b. cond b (new step.b) 0) ((Decides-ltb 1 (arity_of step.op)).1 has) ∙ second has
      | inr none ↦ ap (λ b. cond b (new step.b) 0) (not_less 1 (arity_of step.op) none) ∙ sym (stands.fits.no_second none)
    ] in
    let made : ℕ → ℕ → Step = λ x y. record { op = step.op; a = x; b = y; value = step.value } in
    ap (λ x. made x (cond (ltb 1 (arity_of step.op)) (new step.b) 0)) one ∙ ap (made step.a) two

module _ (steps : List Step) (choices : List Choice) (tape : IsTape steps) (choose : AreChoices steps choices) (all : kept_below steps choices (length steps) ≡ length steps) where
  kept_below-slow : (n more : ℕ) → kept_below steps choices (n + more) ≤ kept_below steps choices n + more
  kept_below-slow n zero = let none : n + 0 ≡ n = omega arith in rw none (omega arith)
  kept_below-slow n (suc more) =
      let next : n + suc more ≡ suc (n + more) = omega arith in
      rw next (elim (cases_Bool (is_kept steps choices (n + more))) [
        | inl kept ↦ omega (arith, kept_below-kept steps choices (n + more) kept, kept_below-slow n more)
        | inr dropped ↦ omega (arith, kept_below-dropped steps choices (n + more) dropped, kept_below-slow n more)
      ])

  kept_below-own : (n : ℕ) → n ≤ length steps → kept_below steps choices n ≡ n
  kept_below-own n within =
      let rest : n + (length steps - n) ≡ length steps = omega arith in
      let slow = subst (λ k. kept_below steps choices k ≤ kept_below steps choices n + (length steps - n)) rest (kept_below-slow n (length steps - n)) in
      omega (arith, all, slow, kept_below-le steps choices n)

  pub each_kept : (place : ℕ) → place < length steps → is_kept steps choices place ≡ true
  each_kept place within =
      elim (cases_Bool (is_kept steps choices place)) [
        | inl kept ↦ kept
        | inr dropped ↦ absurd (omega (arith, kept_below-dropped steps choices place dropped, kept_below-own place (omega arith), kept_below-own (suc place) (omega arith)))
      ]

  new_place-own : (place : ℕ) → place < length steps → new_place steps choices place ≡ place
  new_place-own place within =
      let keeps = kept_keeps steps choices tape.some tape.each choose place (each_kept place within) in
      ap (kept_below steps choices) (representative_both steps choices tape.each choose place within keeps.both) ∙ kept_below-own place (omega arith)

  live_below-own : (n : ℕ) → n ≤ length steps → live_below steps choices n ≡ take n steps
  live_below-own zero within = refl
  live_below-own (suc n) within =
      let stands = step_at-stands steps n tape.each (omega arith) in
      let step : renumbered (new_place steps choices) (step_at steps n) ≡ step_at steps n =
      renumbered-own n (step_at steps n) (new_place steps choices) stands
      (λ has. new_place-own (step_at steps n).a (omega (arith, stands.fits.first has))) (λ has. new_place-own (step_at steps n).b (omega (arith, stands.fits.second has))) in
      let more : take (n + 1) steps ≡ take n steps ++ step_at steps n ∷ [] = take_more steps n _ (omega arith) in
      live_below-kept steps choices n (each_kept n (omega arith))
      ∙ ap (λ l. l ++ renumbered (new_place steps choices) (step_at steps n) ∷ []) (live_below-own n (omega arith))
      ∙ ap (λ s. take n steps ++ s ∷ []) step ∙ sym more ∙ ap (λ k. take k steps) (add-one n)

  pub live_of-whole : live_of steps choices ≡ steps
  live_of-whole = live_below-own (length steps) (omega arith) ∙ take_all (length steps) steps (omega arith)

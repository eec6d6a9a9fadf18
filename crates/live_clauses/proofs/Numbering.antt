-- One step up a list: its number is that of what stands for it, and a live step is copied with new numbers.
use Rattle.std.proofs.Common.{ℤ, ◌≡◌, ◌≢◌, ℕ, zero, suc, ◌+◌, ◌<◌, ◌≤◌, Bool, true, false, cond, ◌&&◌, ltb, ◌⊎◌, List, [], ◌∷◌, ◌++◌, length, map, take, get_or, set, slice_index, inl, inr, refl, ap, sym, subst, ◌∙◌, arith}
use Rattle.std.proofs.lemmas.List.{length-map, get_or-set_same, get_or-set_other}
use Rattle.std.proofs.lemmas.Bool.{false≢true, cases_lt}
use Rattle.std.proofs.lemmas.Bool.Decides.{Decides-ltb}
use Rattle.fixed_ops.specs.Arity.{arity_of}
use Rattle.interval_ops.specs.declared.choice.Choice.{Choice}
use Rattle.interval_ops.specs.declared.choice.Choice.TheVariants.{Left, Right, Both}
use Rattle.live_clauses.specs.declared.packed_step.PackedStep.{PackedStep}
use Rattle.live_clauses.specs.declared.step.Step.{Step}
use Rattle.live_clauses.specs.Choices.{step_at, choice_at, AreChoices}
use Rattle.live_clauses.specs.Live.{chosen, is_needed, is_both, is_kept, kept_below, new_place, renumbered, live_below}
use Rattle.live_clauses.specs.Packed.{first_of, is_constant, unpacked}
use Rattle.live_clauses.specs.Steps.{IsTape}
use Rattle.live_clauses.proofs.Representatives.{choice_cases, chosen_left, chosen_right, chosen_both, step_at-stands, choosing_operands, left_chooses, right_chooses, representative_left, representative_right, representative_both}
use Rattle.live_clauses.proofs.Needs.{needed_on, hands_on_left, hands_on_right, hands_on_first, hands_on_second}
use Rattle.live_clauses.proofs.Kept.{kept_below-dropped, live_below-dropped}
use Rattle.live_clauses.proofs.Stored.{chosen-first, constant-both, step_at-unpacked}

-- the needed steps before a place have their new numbers
abbrev pub AreNumbers : ℕ → List Step → List Choice → List ℕ → Type 0
AreNumbers upto steps choices numbers = (place : ℕ) → place < upto
    → is_needed steps choices place ≡ true
    → slice_index numbers place ≡ new_place steps choices place

-- What a walk up a list has done before a place: the needed steps there have their numbers, and the
-- live ones stand at the front of the new list, so many of them.
pub record IsCopied (constants : List ℤ) (at : ℕ) (steps : List Step) (choices : List Choice)
    (numbers : List ℕ) (new : List PackedStep) (count : ℕ) : Type 0 where
  pub numbered : AreNumbers at steps choices numbers
  pub counted : count ≡ kept_below steps choices at
  pub copied : map (unpacked constants) (take count new) ≡ live_below steps choices at

-- new numbers count only where an operand is
renumbered-same : (step : Step) (f g : ℕ → ℕ) → (0 < arity_of step.op → f step.a ≡ g step.a) → (1 < arity_of step.op → f step.b ≡ g step.b) → renumbered f step ≡ renumbered g step
renumbered-same step f g first second =
    let one : cond (ltb 0 (arity_of step.op)) (f step.a) 0 ≡ cond (ltb 0 (arity_of step.op)) (g step.a) 0 = cond_same _ _ _ 0 (λ has. first ((Decides-ltb 0 (arity_of step.op)).0 has)) in
    let two : cond (ltb 1 (arity_of step.op)) (f step.b) 0 ≡ cond (ltb 1 (arity_of step.op)) (g step.b) 0 = cond_same _ _ _ 0 (λ has. second ((Decides-ltb 1 (arity_of step.op)).0 has)) in
    let made : ℕ → ℕ → Step = λ x y. record { op = step.op; a = x; b = y; value = step.value } in
    ap (λ x. made x (cond (ltb 1 (arity_of step.op)) (f step.b) 0)) one ∙ ap (made (cond (ltb 0 (arity_of step.op)) (g step.a) 0)) two
  where
    cond_same : (b : Bool) (x y z : ℕ) → (b ≡ true → x ≡ y) → cond b x z ≡ cond b y z
    cond_same true x y z same = same refl
    cond_same false x y z same = refl

module _ (steps : List Step) (choices : List Choice) (tape : IsTape steps) (choose : AreChoices steps choices) where
  module _ (at : ℕ) (numbers : List ℕ) (within : at < length steps) (needed : is_needed steps choices at ≡ true) (are : AreNumbers at steps choices numbers) where
    -- the number of what stands for a needed step
    pub number-chosen : (count : ℕ) → count ≡ kept_below steps choices at
        → chosen (choice_at choices at) (slice_index numbers (step_at steps at).a) (slice_index numbers (step_at steps at).b) count ≡ new_place steps choices at
    number-chosen count is =
        elim (choice_cases (choice_at choices at)) [
          | inl left ↦
              let before = choosing_operands steps choices tape.each choose at within (left_chooses _ left) in
              let there = needed_on steps choices tape.some tape.each choose at (step_at steps at).a within needed (hands_on_left (step_at steps at) _ left) in
              chosen_left _ _ _ count left ∙ are (step_at steps at).a before.1 there ∙ ap (kept_below steps choices) (sym (representative_left steps choices tape.each choose at within left))
          | inr other ↦ elim other [
            | inl right ↦
                let before = choosing_operands steps choices tape.each choose at within (right_chooses _ right) in
                let there = needed_on steps choices tape.some tape.each choose at (step_at steps at).b within needed (hands_on_right (step_at steps at) _ right) in
                chosen_right _ _ _ count right ∙ are (step_at steps at).b before.2 there ∙ ap (kept_below steps choices) (sym (representative_right steps choices tape.each choose at within right))
            | inr both ↦ chosen_both _ _ _ count both ∙ is ∙ ap (kept_below steps choices) (sym (representative_both steps choices tape.each choose at within both))
          ]
        ]

    -- the new form of a step that stands for itself
    number-renumbered : choice_at choices at ≡ Both → renumbered (λ k. slice_index numbers k) (step_at steps at) ≡ renumbered (new_place steps choices) (step_at steps at)
    number-renumbered both =
        let stands = step_at-stands steps at tape.each within in
        renumbered-same (step_at steps at) (λ k. slice_index numbers k) (new_place steps choices)
        (λ has. are (step_at steps at).a (stands.fits.first has) (needed_on steps choices tape.some tape.each choose at (step_at steps at).a within needed (hands_on_first (step_at steps at) _ both has)))
        (λ has. are (step_at steps at).b (stands.fits.second has) (needed_on steps choices tape.some tape.each choose at (step_at steps at).b within needed (hands_on_second (step_at steps at) _ both has)))

    pub copied-visited : live_below steps choices at ++ cond (is_both (choice_at choices at)) (renumbered (λ k. slice_index numbers k) (step_at steps at) ∷ []) [] ≡ live_below steps choices (suc at)
    copied-visited =
        let kept : is_kept steps choices at ≡ is_both (choice_at choices at) = ap (λ b. b && is_both (choice_at choices at)) needed in
        ap (λ l. live_below steps choices at ++ l) (same_copy (choice_cases (choice_at choices at)) ∙ ap (λ b. cond b (renumbered (new_place steps choices) (step_at steps at) ∷ []) []) (sym kept))
      where
        same_copy : (choice_at choices at ≡ Left) ⊎ ((choice_at choices at ≡ Right) ⊎ (choice_at choices at ≡ Both))
            → cond (is_both (choice_at choices at)) (renumbered (λ k. slice_index numbers k) (step_at steps at) ∷ []) [] ≡ cond (is_both (choice_at choices at)) (renumbered (new_place steps choices) (step_at steps at) ∷ []) []
        same_copy (inl left) =
            ap (λ c. cond (is_both c) (renumbered (λ k. slice_index numbers k) (step_at steps at) ∷ []) []) left ∙ sym (ap (λ c. cond (is_both c) (renumbered (new_place steps choices) (step_at steps at) ∷ []) []) left)
        same_copy (inr (inl right)) =
            ap (λ c. cond (is_both c) (renumbered (λ k. slice_index numbers k) (step_at steps at) ∷ []) []) right ∙ sym (ap (λ c. cond (is_both c) (renumbered (new_place steps choices) (step_at steps at) ∷ []) []) right)
        same_copy (inr (inr both)) = ap (λ s. cond (is_both (choice_at choices at)) (s ∷ []) []) (number-renumbered both)

    -- the numbers with one more
    pub numbers-visited : (number : ℕ) → at < length numbers → number ≡ new_place steps choices at → AreNumbers (suc at) steps choices (set numbers at number)
    numbers-visited number room is place below there =
        elim (cases_lt place at) [
          | inl before ↦ let other : place ≢ at = omega arith in get_or-set_other numbers at place number 0 other ∙ are place before there
          | inr here ↦ let same : place ≡ at = omega arith in rw same (get_or-set_same numbers at number 0 room ∙ is)
        ]

  numbers-passed : (at : ℕ) (numbers : List ℕ) → is_needed steps choices at ≡ false → AreNumbers at steps choices numbers → AreNumbers (suc at) steps choices numbers
  numbers-passed at numbers idle are place below there =
      elim (cases_lt place at) [
        | inl before ↦ are place before there
        | inr here ↦ let same : place ≡ at = omega arith in absurd (false≢true (sym idle ∙ rw same at there))
      ]

  -- a walk up passes a step that is not needed
  pub copied-passed : (constants : List ℤ) (at : ℕ) (numbers : List ℕ) (new : List PackedStep) (count : ℕ) → is_needed steps choices at ≡ false
      → IsCopied constants at steps choices numbers new count → IsCopied constants (suc at) steps choices numbers new count
  copied-passed constants at numbers new count idle so =
      let dropped : is_kept steps choices at ≡ false = ap (λ b. b && is_both (choice_at choices at)) idle in
      record {
        numbered = numbers-passed at numbers idle so.numbered;
        counted = so.counted ∙ sym (kept_below-dropped steps choices at dropped);
        copied = so.copied ∙ sym (live_below-dropped steps choices at dropped);
      }

  -- and many of them
  pub copied-idle : (constants : List ℤ) (at turns : ℕ) (numbers : List ℕ) (new : List PackedStep) (count : ℕ)
      → ((place : ℕ) → at ≤ place → place < at + turns → is_needed steps choices place ≡ false)
      → IsCopied constants at steps choices numbers new count → IsCopied constants (at + turns) steps choices numbers new count
  copied-idle constants at zero numbers new count idle so =
      let same : at ≡ at + 0 = omega arith in subst (λ p. IsCopied constants p steps choices numbers new count) same so
  copied-idle constants at (suc turns) numbers new count idle so =
      let next : suc (at + turns) ≡ at + suc turns = omega arith in
      subst (λ p. IsCopied constants p steps choices numbers new count) next
      (copied-passed constants (at + turns) numbers new count (idle (at + turns) (omega arith) (omega arith))
      (copied-idle constants at turns numbers new count (λ place from to. idle place from (omega (arith, to))) so))

-- the same of steps as they are kept
module _ (constants : List ℤ) (kept : List PackedStep) (choices : List Choice) (tape : IsTape (map (unpacked constants) kept)) (choose : AreChoices (map (unpacked constants) kept) choices) where
  pub visited : (at number count after : ℕ) (numbers : List ℕ) (new made : List PackedStep) (read : PackedStep) (choice : Choice) → at < length kept
      → read ≡ get_or kept at read → choice ≡ choice_at choices at → is_needed (map (unpacked constants) kept) choices at ≡ true → at < length numbers
      → IsCopied constants at (map (unpacked constants) kept) choices numbers new count
      → number ≡ chosen choice (slice_index numbers read.a) (slice_index numbers read.b) count
      → after ≡ count + cond (is_both choice) 1 0
      → map (unpacked constants) (take after made) ≡ map (unpacked constants) (take count new) ++ cond (is_both choice) (renumbered (λ k. slice_index numbers k) (unpacked constants read) ∷ []) []
      → IsCopied constants (suc at) (map (unpacked constants) kept) choices (set numbers at number) made after
  visited at number count after numbers new made read choice within is chosen_is needed room so number_is after_is made_is =
      let steps = map (unpacked constants) kept in
      let there : at < length steps = omega (arith, length-map kept (unpacked constants)) in
      let step : unpacked constants read ≡ step_at steps at = step_at-unpacked constants kept at read within is in
      let live : is_kept steps choices at ≡ is_both (choice_at choices at) = ap (λ b. b && is_both (choice_at choices at)) needed in
      let both : is_constant read.op ≡ true → choice ≡ Both = λ constant. chosen_is ∙ constant-both steps choices choose at there (ap (λ s. is_constant s.op) (sym step) ∙ constant) in
      let number_at : number ≡ chosen (choice_at choices at) (slice_index numbers (step_at steps at).a) (slice_index numbers (step_at steps at).b) count =
      number_is ∙ chosen-first choice read (slice_index numbers) (slice_index numbers read.b) count both ∙ ap (λ c. chosen c (slice_index numbers (first_of read)) (slice_index numbers read.b) count) chosen_is
      ∙ ap (λ s. chosen (choice_at choices at) (slice_index numbers s.a) (slice_index numbers s.b) count) step in
      let made_at : map (unpacked constants) (take after made) ≡ live_below steps choices at ++ cond (is_both (choice_at choices at)) (renumbered (λ k. slice_index numbers k) (step_at steps at) ∷ []) [] =
      made_is ∙ ap (λ l. l ++ cond (is_both choice) (renumbered (λ k. slice_index numbers k) (unpacked constants read) ∷ []) []) so.copied
      ∙ ap (λ c. live_below steps choices at ++ cond (is_both c) (renumbered (λ k. slice_index numbers k) (unpacked constants read) ∷ []) []) chosen_is
      ∙ ap (λ s. live_below steps choices at ++ cond (is_both (choice_at choices at)) (renumbered (λ k. slice_index numbers k) s ∷ []) []) step in
      record {
        numbered = numbers-visited steps choices tape choose at numbers there needed so.numbered number room (number_at ∙ number-chosen steps choices tape choose at numbers there needed so.numbered count so.counted);
        counted = after_is ∙ ap (λ c. count + cond (is_both c) 1 0) chosen_is ∙ ap (λ n. n + cond (is_both (choice_at choices at)) 1 0) so.counted
            ∙ ap (λ b. kept_below steps choices at + cond b 1 0) (sym live);
        copied = made_at ∙ copied-visited steps choices tape choose at numbers there needed so.numbered;
      }

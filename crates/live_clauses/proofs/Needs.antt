-- Going down from the last step finds the needed steps, and the live ones are exactly those of them that stand for themselves.
use Rattle.std.proofs.Common.{◌≡◌, ℕ, zero, suc, ◌-◌, ◌<◌, ◌≤◌, Bool, true, ◌&&◌, ◌⊎◌, eqb, ltb, List, length, inl, inr, refl, ap, sym, subst, ◌∙◌, arith}
use Rattle.std.proofs.lemmas.Bool.{and_from, and_parts, cases_lt, false≢true, or_right}
use Rattle.std.proofs.lemmas.Bool.Decides.{Decides-eqb, Decides-ltb}
use Rattle.fixed_ops.specs.Arity.{arity_of}
use Rattle.interval_ops.specs.declared.choice.Choice.{Choice}
use Rattle.interval_ops.specs.declared.choice.Choice.TheVariants.{Left, Right, Both}
use Rattle.live_clauses.specs.declared.step.Step.{Step}
use Rattle.live_clauses.specs.Choices.{step_at, choice_at, AreChoices}
use Rattle.live_clauses.specs.Live.{representative, IsLive, reads, hands_on, needed_after, is_needed, is_both, is_kept}
use Rattle.live_clauses.specs.Live.IsLive.{Last, First, Second}
use Rattle.live_clauses.specs.Steps.{AreSteps}
use Rattle.live_clauses.proofs.Representatives.{choice_cases, chosen_left, chosen_right, chosen_both, left_chooses, right_chooses, step_at-stands, choosing_operands, representative_left, representative_right, representative_both, representative_holds, representative-both}
use Rattle.live_clauses.proofs.Joined.{one_true, true_left, same_tests}

reads_cases : (step : Step) (place : ℕ) → reads step place ≡ true
    → ((0 < arity_of step.op) × (place ≡ step.a)) ⊎ ((1 < arity_of step.op) × (place ≡ step.b))
reads_cases step place read =
    elim (one_true (ltb 0 (arity_of step.op) && eqb place step.a) _ read) [
      | inl first ↦
          let parts = and_parts (ltb 0 (arity_of step.op)) (eqb place step.a) first in
          inl ((Decides-ltb 0 (arity_of step.op)).0 parts.0, (Decides-eqb place step.a).0 parts.1)
      | inr second ↦
          let parts = and_parts (ltb 1 (arity_of step.op)) (eqb place step.b) second in
          inr ((Decides-ltb 1 (arity_of step.op)).0 parts.0, (Decides-eqb place step.b).0 parts.1)
    ]

-- what hands on says by choice
pub hands_on_left : (step : Step) (choice : Choice) → choice ≡ Left → hands_on step choice step.a ≡ true
hands_on_left step choice is = chosen_left choice _ _ _ is ∙ (Decides-eqb step.a step.a).1 refl

pub hands_on_right : (step : Step) (choice : Choice) → choice ≡ Right → hands_on step choice step.b ≡ true
hands_on_right step choice is = chosen_right choice _ _ _ is ∙ (Decides-eqb step.b step.b).1 refl

pub hands_on_first : (step : Step) (choice : Choice) → choice ≡ Both → 0 < arity_of step.op → hands_on step choice step.a ≡ true
hands_on_first step choice is has =
    chosen_both choice _ _ _ is ∙ true_left _ _ (and_from _ _ ((Decides-ltb 0 (arity_of step.op)).1 has) ((Decides-eqb step.a step.a).1 refl))

pub hands_on_second : (step : Step) (choice : Choice) → choice ≡ Both → 1 < arity_of step.op → hands_on step choice step.b ≡ true
hands_on_second step choice is has =
    chosen_both choice _ _ _ is ∙ or_right _ _ (and_from _ _ ((Decides-ltb 1 (arity_of step.op)).1 has) ((Decides-eqb step.b step.b).1 refl))

-- each way in which a step needs another
abbrev Ways : Step → Choice → ℕ → Type 0
Ways step choice place = ((choice ≡ Left) × (place ≡ step.a)) ⊎ (((choice ≡ Right) × (place ≡ step.b)) ⊎ ((choice ≡ Both) × (((0 < arity_of step.op) × (place ≡ step.a)) ⊎ ((1 < arity_of step.op) × (place ≡ step.b)))))

hands_on_cases : (step : Step) (choice : Choice) (place : ℕ) → hands_on step choice place ≡ true → Ways step choice place
hands_on_cases step choice place hands =
    elim (choice_cases choice) [
      | inl is ↦ inl (is, (Decides-eqb place step.a).0 (sym (chosen_left choice _ _ _ is) ∙ hands))
      | inr other ↦ elim other [
        | inl is ↦ inr (inl (is, (Decides-eqb place step.b).0 (sym (chosen_right choice _ _ _ is) ∙ hands)))
        | inr is ↦ inr (inr (is, reads_cases step place (sym (chosen_both choice _ _ _ is) ∙ hands)))
      ]
    ]

is_both_Both : (choice : Choice) → is_both choice ≡ true → choice ≡ Both
is_both_Both Left is = absurd (false≢true is)
is_both_Both Right is = absurd (false≢true is)
is_both_Both Both is = refl

module _ (steps : List Step) (choices : List Choice) (some : 0 < length steps) (stand : AreSteps steps) (choose : AreChoices steps choices) where
  abbrev hands : ℕ → ℕ → Bool
  hands at place = hands_on (step_at steps at) (choice_at choices at) place

  -- a step needs earlier ones alone
  pub hands_on-before : (at place : ℕ) → at < length steps → hands at place ≡ true → place < at
  hands_on-before at place within handed =
      let stands = step_at-stands steps at stand within in
      elim (hands_on_cases (step_at steps at) (choice_at choices at) place handed) [
        | inl left ↦ let before = choosing_operands steps choices stand choose at within (left_chooses _ left.0) in omega (arith, before.1, left.1)
        | inr other ↦ elim other [
          | inl right ↦ let before = choosing_operands steps choices stand choose at within (right_chooses _ right.0) in omega (arith, before.2, right.1)
          | inr both ↦ elim both.1 [
            | inl first ↦ omega (arith, stands.fits.first first.0, first.1)
            | inr second ↦ omega (arith, stands.fits.second second.0, second.1)
          ]
        ]
      ]

  -- what is needed after some turns is needed after more
  pub needed_later : (m n place : ℕ) → m ≤ n → needed_after m steps choices place ≡ true → needed_after n steps choices place ≡ true
  needed_later m zero place less needed = let is : m ≡ 0 = omega arith in subst (λ k. needed_after k steps choices place ≡ true) is needed
  needed_later m (suc n) place less needed =
      elim (cases_lt n m) [
        | inl more ↦ let is : m ≡ suc n = omega arith in subst (λ k. needed_after k steps choices place ≡ true) is needed
        | inr fewer ↦ true_left _ _ (needed_later m n place fewer needed)
      ]

  -- no turn at or below a place adds it
  pub needed_stays : (n place : ℕ) → place < length steps → length steps - 1 - place ≤ n → needed_after n steps choices place ≡ true → needed_after (length steps - 1 - place) steps choices place ≡ true
  needed_stays zero place within enough needed = let is : 0 ≡ length steps - 1 - place = omega arith in subst (λ k. needed_after k steps choices place ≡ true) is needed
  needed_stays (suc n) place within enough needed =
      elim (cases_lt n (length steps - 1 - place)) [
        | inl more ↦ let is : suc n ≡ length steps - 1 - place = omega arith in subst (λ k. needed_after k steps choices place ≡ true) is needed
        | inr fewer ↦ elim (one_true (needed_after n steps choices place) _ needed) [
          | inl sooner ↦ needed_stays n place within fewer sooner
          | inr now ↦ absurd (omega (arith, hands_on-before (length steps - 1 - n) place (omega arith) (and_parts (needed_after n steps choices (length steps - 1 - n)) _ now).1))
        ]
      ]

  -- once the turns have come down to a place, it is settled
  pub needed-settled : (place : ℕ) → place < length steps → needed_after (length steps - 1 - place) steps choices place ≡ is_needed steps choices place
  needed-settled place within =
      same_tests _ _ (λ sooner. needed_later (length steps - 1 - place) (length steps) place (omega arith) sooner)
      (λ later. needed_stays (length steps) place within (omega arith) later)

  -- the last step is needed, and so is what a needed one needs
  pub needed_last : is_needed steps choices (length steps - 1) ≡ true
  needed_last = needed_later 0 (length steps) (length steps - 1) (omega arith) ((Decides-eqb (length steps - 1) (length steps - 1)).1 refl)

  pub needed_on : (at place : ℕ) → at < length steps → is_needed steps choices at ≡ true → hands at place ≡ true → is_needed steps choices place ≡ true
  needed_on at place within needed handed =
      let turn = length steps - 1 - at in
      let there : length steps - 1 - turn ≡ at = omega arith in
      let settled = needed_stays (length steps) at within (omega arith) needed in
      let here : needed_after turn steps choices (length steps - 1 - turn) && hands (length steps - 1 - turn) place ≡ true =
      subst (λ k. needed_after turn steps choices k && hands k place ≡ true) (sym there) (and_from _ _ settled handed) in
      needed_later (suc turn) (length steps) place (omega arith) (or_right (needed_after turn steps choices place) _ here)

  -- and nothing past the end
  pub needed_within : (n place : ℕ) → needed_after n steps choices place ≡ true → place < length steps
  needed_within zero place needed = omega (arith, (Decides-eqb place (length steps - 1)).0 needed)
  needed_within (suc n) place needed =
      elim (one_true (needed_after n steps choices place) _ needed) [
        | inl sooner ↦ needed_within n place sooner
        | inr now ↦ omega (arith, hands_on-before (length steps - 1 - n) place (omega arith) (and_parts (needed_after n steps choices (length steps - 1 - n)) _ now).1)
      ]

  -- the representative of a needed step is live
  needed_live : (n place : ℕ) → needed_after n steps choices place ≡ true → IsLive steps choices (representative steps choices place)
  needed_live zero place needed =
      subst (λ k. IsLive steps choices (representative steps choices k)) (sym ((Decides-eqb place (length steps - 1)).0 needed)) Last
  needed_live (suc n) place needed =
      elim (one_true (needed_after n steps choices place) _ needed) [
        | inl sooner ↦ needed_live n place sooner
        | inr now ↦
            let at = length steps - 1 - n in
            let parts = and_parts (needed_after n steps choices at) (hands at place) now in
            live_on at place (omega arith) (needed_live n at parts.0) parts.1
      ]
    where
      live_on : (at place : ℕ) → at < length steps → IsLive steps choices (representative steps choices at) → hands at place ≡ true → IsLive steps choices (representative steps choices place)
      live_on at place within live handed =
          elim (hands_on_cases (step_at steps at) (choice_at choices at) place handed) [
            | inl left ↦ rw left.1 (rw (representative_left steps choices stand choose at within left.0) at live)
            | inr other ↦ elim other [
              | inl right ↦ rw right.1 (rw (representative_right steps choices stand choose at within right.0) at live)
              | inr both ↦
                  let itself : IsLive steps choices at = rw (representative_both steps choices stand choose at within both.0) at live in
                  elim both.1 [
                    | inl first ↦ rw first.1 (First at itself first.0)
                    | inr second ↦ rw second.1 (Second at itself second.0)
                  ]
            ]
          ]

  -- a needed step has a needed representative
  pub needed_representative : (place : ℕ) → place < length steps → is_needed steps choices place ≡ true → is_needed steps choices (representative steps choices place) ≡ true
  needed_representative = representative_holds steps choices stand choose (λ place at. is_needed steps choices place ≡ true → is_needed steps choices at ≡ true)
      (λ place within is needed. needed)
      (λ place at within is on needed. on (needed_on place (step_at steps place).a within needed (hands_on_left (step_at steps place) _ is)))
      (λ place at within is on needed. on (needed_on place (step_at steps place).b within needed (hands_on_right (step_at steps place) _ is)))

  -- a step that is kept stands in the list, is needed and stands for itself
  pub record Keeps (place : ℕ) : Type 0 where
    pub within : place < length steps
    pub needed : is_needed steps choices place ≡ true
    pub both : choice_at choices place ≡ Both

  pub kept_keeps : (place : ℕ) → is_kept steps choices place ≡ true → Keeps place
  kept_keeps place kept =
      let parts = and_parts (is_needed steps choices place) _ kept in
      record { within = needed_within (length steps) place parts.0; needed = parts.0; both = is_both_Both _ parts.1 }

  pub keeps_kept : (place : ℕ) → Keeps place → is_kept steps choices place ≡ true
  keeps_kept place keeps = and_from _ _ keeps.needed (ap is_both keeps.both)

  pub representative_keeps : (place : ℕ) → place < length steps → is_needed steps choices place ≡ true → Keeps (representative steps choices place)
  representative_keeps place within needed =
      let needs = needed_representative place within needed in
      record { within = needed_within (length steps) (representative steps choices place) needs; needed = needs; both = representative-both steps choices stand choose place within }

  -- the live steps are those that are kept
  pub live_keeps : (place : ℕ) → IsLive steps choices place → Keeps place
  live_keeps _ Last = representative_keeps (length steps - 1) (omega arith) needed_last
  live_keeps _ (First place live has) =
      let keeps = live_keeps place live in
      let first = needed_on place (step_at steps place).a keeps.within keeps.needed (hands_on_first (step_at steps place) _ keeps.both has) in
      representative_keeps _ (needed_within (length steps) _ first) first
  live_keeps _ (Second place live has) =
      let keeps = live_keeps place live in
      let second = needed_on place (step_at steps place).b keeps.within keeps.needed (hands_on_second (step_at steps place) _ keeps.both has) in
      representative_keeps _ (needed_within (length steps) _ second) second

  pub live_kept : (place : ℕ) → IsLive steps choices place → is_kept steps choices place ≡ true
  live_kept place live = keeps_kept place (live_keeps place live)

  pub kept_live : (place : ℕ) → is_kept steps choices place ≡ true → IsLive steps choices place
  kept_live place kept =
      let keeps = kept_keeps place kept in
      rw (representative_both steps choices stand choose place keeps.within keeps.both) at (needed_live (length steps) place keeps.needed)

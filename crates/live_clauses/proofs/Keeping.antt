-- The live list is a list that can be evaluated, and where the choices are right it means what the old list means.
use Rattle.std.proofs.Common.{◌≡◌, ℕ, zero, suc, ◌+◌, ◌-◌, ◌<◌, ◌≤◌, true, List, length, slice_get, inl, inr, refl, ap, sym, subst, ◌∙◌, arith}
use Rattle.std.proofs.lemmas.Bool.{cases_lt, cases_Bool}
use Rattle.std.proofs.lemmas.Bool.Decides.{Decides-ltb}
use Rattle.std.proofs.lemmas.Option.{slice_get_within, same_Some}
use Rattle.fixed_ops.specs.Arity.{arity_of}
use Rattle.fixed_ops.specs.Points.{Point}
use Rattle.interval_ops.specs.declared.choice.Choice.{Choice}
use Rattle.live_clauses.specs.declared.step.Step.{Step}
use Rattle.live_clauses.specs.Choices.{step_at, AreChoices, AreRight}
use Rattle.live_clauses.specs.Live.{representative, IsLive, is_needed, is_kept, kept_below, new_place, renumbered, live_below, live_of}
use Rattle.live_clauses.specs.Live.IsLive.{Last, First, Second}
use Rattle.live_clauses.proofs.MeaningLaws.{meaning_at-step, step-same}
use Rattle.live_clauses.specs.Meanings.{Meaning, MeanTheirChoices, ReadsItsOperands, meaning_at, tape_meaning}
use Rattle.live_clauses.specs.Steps.{IsStepAt, AreSteps, IsTape, tape_value}
use Rattle.live_clauses.proofs.ValueLaws.{number_at, number_at-reads}
use Rattle.live_clauses.proofs.Representatives.{slice_get-step_at, step_at-stands, representative-le, representative_holds}
use Rattle.live_clauses.proofs.Needs.{Keeps, needed_on, needed_last, hands_on_first, hands_on_second, kept_keeps, keeps_kept, representative_keeps, kept_live, live_keeps}
use Rattle.live_clauses.proofs.Kept.{kept_below-kept, kept_below-dropped, kept_below-less, kept_below-le, length-live_below, live_below-at, kept_at, renumbered-fits}

module _ (steps : List Step) (choices : List Choice) (tape : IsTape steps) (choose : AreChoices steps choices) where
  abbrev stand : AreSteps steps
  stand = tape.each

  abbrev pub last_kept : ℕ
  last_kept = representative steps choices (length steps - 1)

  -- what stands for an operand of a kept step is kept, and stands before it
  pub operand_kept : (place operand : ℕ) → is_kept steps choices place ≡ true → operand < place
      → (Keeps steps choices tape.some stand choose place → is_needed steps choices operand ≡ true)
      → (is_kept steps choices (representative steps choices operand) ≡ true) × (representative steps choices operand < place)
  operand_kept place operand kept before needs =
      let keeps = kept_keeps steps choices tape.some stand choose place kept in
      let within : operand < length steps = omega (arith, keeps.within) in
      let there = representative_keeps steps choices tape.some stand choose operand within (needs keeps) in
      (keeps_kept steps choices tape.some stand choose _ there, omega (arith, representative-le steps choices stand choose operand within))

  pub first_kept : (place : ℕ) → is_kept steps choices place ≡ true → 0 < arity_of (step_at steps place).op
      → (is_kept steps choices (representative steps choices (step_at steps place).a) ≡ true) × (representative steps choices (step_at steps place).a < place)
  first_kept place kept has =
      let within = (kept_keeps steps choices tape.some stand choose place kept).within in
      operand_kept place (step_at steps place).a kept ((step_at-stands steps place stand within).fits.first has)
      (λ keeps. needed_on steps choices tape.some stand choose place (step_at steps place).a keeps.within keeps.needed (hands_on_first (step_at steps place) _ keeps.both has))

  pub second_kept : (place : ℕ) → is_kept steps choices place ≡ true → 1 < arity_of (step_at steps place).op
      → (is_kept steps choices (representative steps choices (step_at steps place).b) ≡ true) × (representative steps choices (step_at steps place).b < place)
  second_kept place kept has =
      let within = (kept_keeps steps choices tape.some stand choose place kept).within in
      operand_kept place (step_at steps place).b kept ((step_at-stands steps place stand within).fits.second has)
      (λ keeps. needed_on steps choices tape.some stand choose place (step_at steps place).b keeps.within keeps.needed (hands_on_second (step_at steps place) _ keeps.both has))

  -- a kept step's new form may stand at its number
  pub kept_stands : (place : ℕ) → is_kept steps choices place ≡ true
      → IsStepAt (kept_below steps choices place) (renumbered (new_place steps choices) (step_at steps place))
  kept_stands place kept =
      let within = (kept_keeps steps choices tape.some stand choose place kept).within in
      renumbered-fits (kept_below steps choices place) (step_at steps place) (new_place steps choices)
      (λ has. let first = first_kept place kept has in kept_below-less steps choices _ place first.0 first.1)
      (λ has. let second = second_kept place kept has in kept_below-less steps choices _ place second.0 second.1)
      place (step_at-stands steps place stand within)

  pub live_below-stand : (n : ℕ) → AreSteps (live_below steps choices n)
  live_below-stand n at step is =
      let found = kept_at steps choices n at (omega (arith, slice_get_within (live_below steps choices n) at step is, length-live_below steps choices n)) in
      let there = live_below-at steps choices n found.0 found.1 found.2 in
      let same : renumbered (new_place steps choices) (step_at steps found.0) ≡ step = same_Some _ _ (sym there ∙ ap (slice_get (live_below steps choices n)) found.3 ∙ is) in
      subst (λ s. IsStepAt at s) same (subst (λ k. IsStepAt k (renumbered (new_place steps choices) (step_at steps found.0))) found.3 (kept_stands found.0 found.2))

  -- the representative of the last step is kept, and none after it is
  pub last_keeps : is_kept steps choices last_kept ≡ true
  last_keeps = keeps_kept steps choices tape.some stand choose _
      (representative_keeps steps choices tape.some stand choose (length steps - 1) (omega (arith, tape.some)) (needed_last steps choices tape.some stand choose))

  live_before_last : (place : ℕ) → IsLive steps choices place → place ≤ last_kept
  live_before_last _ Last = omega arith
  live_before_last _ (First place live has) =
      let first = first_kept place (keeps_kept steps choices tape.some stand choose place (live_keeps steps choices tape.some stand choose place live)) has in
      omega (arith, live_before_last place live, first.1)
  live_before_last _ (Second place live has) =
      let second = second_kept place (keeps_kept steps choices tape.some stand choose place (live_keeps steps choices tape.some stand choose place live)) has in
      omega (arith, live_before_last place live, second.1)

  -- so it has the last number
  kept_below_past : (n : ℕ) → last_kept < n → kept_below steps choices n ≡ kept_below steps choices last_kept + 1
  kept_below_past zero past = absurd (omega arith)
  kept_below_past (suc n) past =
      elim (cases_lt last_kept n) [
        | inl before ↦
            elim (cases_Bool (is_kept steps choices n)) [
              | inl kept ↦ absurd (omega (arith, live_before_last n (kept_live steps choices tape.some stand choose n kept)))
              | inr dropped ↦ kept_below-dropped steps choices n dropped ∙ kept_below_past n before
            ]
        | inr here ↦ let same : last_kept ≡ n = omega arith in rw (← same) (kept_below-kept steps choices last_kept last_keeps)
      ]

  last_within : last_kept < length steps
  last_within = (kept_keeps steps choices tape.some stand choose last_kept last_keeps).within

  pub length-live_of : length (live_of steps choices) ≡ kept_below steps choices last_kept + 1
  length-live_of = length-live_below steps choices (length steps) ∙ kept_below_past (length steps) last_within

  pub live_of-tape : IsTape (live_of steps choices)
  live_of-tape = record {
    some = omega (arith, length-live_of);
    few = omega (arith, length-live_below steps choices (length steps), kept_below-le steps choices (length steps), tape.few);
    each = live_below-stand (length steps);
  }

  module _ {D : Type 0} (m : Meaning D) (reads : ReadsItsOperands m) (means : MeanTheirChoices m steps choices) where
    -- a step means what its representative means
    representative-meaning : (place : ℕ) → place < length steps → meaning_at m steps (representative steps choices place) ≡ meaning_at m steps place
    representative-meaning = representative_holds steps choices stand choose (λ place at. meaning_at m steps at ≡ meaning_at m steps place)
        (λ place within is. refl)
        (λ place at within is same. same ∙ sym (means.left place (step_at steps place) (slice_get-step_at steps place within) is))
        (λ place at within is same. same ∙ sym (means.right place (step_at steps place) (slice_get-step_at steps place within) is))

    -- a kept step means at its number what it meant
    kept-meaning : (bound place : ℕ) → place < bound → is_kept steps choices place ≡ true
        → meaning_at m (live_of steps choices) (kept_below steps choices place) ≡ meaning_at m steps place
    kept-meaning zero place less kept = absurd (omega arith)
    kept-meaning (suc bound) place less kept =
        let new = live_of steps choices in
        let old = step_at steps place in
        let within = (kept_keeps steps choices tape.some stand choose place kept).within in
        let stands = step_at-stands steps place stand within in
        let there = live_below-at steps choices (length steps) place within kept in
        meaning_at-step m reads new (kept_below steps choices place) (renumbered (new_place steps choices) old) (live_below-stand (length steps)) there
        ∙ step-same m reads old.op old.value _ _ _ _
        (λ has. let first = first_kept place kept has in
        rw ((Decides-ltb 0 (arity_of old.op)).1 has)
        (kept-meaning bound (representative steps choices old.a) (omega (arith, first.1)) first.0 ∙ representative-meaning old.a (omega (arith, stands.fits.first has))))
        (λ has. let second = second_kept place kept has in
        rw ((Decides-ltb 1 (arity_of old.op)).1 has)
        (kept-meaning bound (representative steps choices old.b) (omega (arith, second.1)) second.0 ∙ representative-meaning old.b (omega (arith, stands.fits.second has))))
        ∙ sym (meaning_at-step m reads steps place old stand (slice_get-step_at steps place within))

    -- where each choice means what it chooses, the live list means what the old list means
    pub live_of-meaning : tape_meaning m (live_of steps choices) ≡ tape_meaning m steps
    live_of-meaning =
        let is : length (live_of steps choices) - 1 ≡ kept_below steps choices last_kept = omega (arith, length-live_of) in
        rw is (kept-meaning (suc last_kept) last_kept (omega arith) last_keeps ∙ representative-meaning (length steps - 1) (omega (arith, tape.some)))

  -- where the choices are right at a point, it has the old list's value there
  pub live_of-value : (p : Point) → AreRight p steps choices → tape_value p (live_of steps choices) ≡ tape_value p steps
  live_of-value p right = live_of-meaning (number_at p) (number_at-reads p) (record { left = right.left; right = right.right })

-- a live list is no longer than its list
pub live_of-le : (steps : List Step) (choices : List Choice) → length (live_of steps choices) ≤ length steps
live_of-le steps choices = omega (arith, length-live_below steps choices (length steps), kept_below-le steps choices (length steps))

-- One step down a list: what it reads lies in the list, and its marks are those of one more turn.
use Rattle.std.proofs.Common.{◌≡◌, ℕ, suc, ◌-◌, ◌<◌, ◌≤◌, Bool, eqb, slice_index, true, false, ◌&&◌, ◌||◌, List, length, inl, inr, refl, ap, sym, subst, ◌∙◌, arith}
use Rattle.std.proofs.lemmas.Bool.{cases_lt}
use Rattle.fixed_ops.specs.Arity.{arity_of}
use Rattle.interval_ops.specs.declared.choice.Choice.{Choice}
use Rattle.live_clauses.specs.declared.step.Step.{Step}
use Rattle.live_clauses.specs.Choices.{step_at, choice_at, has_bit}
use Rattle.live_clauses.specs.Live.{hands_on, needed_after}
use Rattle.live_clauses.specs.Marks.{is_marked, AreMarks, Marks}
use Rattle.live_clauses.specs.Steps.{IsStepAt}
use Rattle.live_clauses.proofs.Bits.{has_bit-zero, or_false}

-- the marked steps are those that are needed after so many turns from the last step down
abbrev pub AreMarksAfter : ℕ → ℕ → List Step → List Choice → List ℕ → Type 0
AreMarksAfter l turns steps choices marks = (place : ℕ) → place < length steps
    → is_marked l marks place ≡ needed_after turns steps choices place

-- operands lie in each memory that the step lies in
pub first_within : (at bound : ℕ) (step : Step) → IsStepAt at step → at < bound → step.a < bound
first_within at bound step stands less = elim (cases_lt 0 (arity_of step.op)) [
  | inl has ↦ omega (arith, stands.fits.first has, less)
  | inr none ↦ omega (arith, stands.fits.no_first (omega (arith, none)), less)
]

-- and so does the second one
pub second_within : (at bound : ℕ) (step : Step) → IsStepAt at step → at < bound → step.b < bound
second_within at bound step stands less = elim (cases_lt 1 (arity_of step.op)) [
  | inl has ↦ omega (arith, stands.fits.second has, less)
  | inr none ↦ omega (arith, stands.fits.no_second none, less)
]

module _ (l : ℕ) (steps : List Step) (choices : List Choice) where
  -- before any turn the last step alone is marked
  pub marks-begun : (marks : List ℕ) (lanes count : ℕ) → count ≡ length steps → has_bit lanes l ≡ true → ((place : ℕ) → place < count → is_marked l marks place ≡ (has_bit lanes l && eqb place (count - 1)))
      → AreMarksAfter l (length steps - count) steps choices marks
  marks-begun marks lanes count is asked begun place within =
      let none : length steps - count ≡ 0 = omega (arith, is) in
      rw none (begun place (omega (arith, is, within)) ∙ ap (λ b. b && eqb place (count - 1)) asked ∙ ap (λ n. eqb place (n - 1)) is)

  -- a turn at a step
  pub marks-visited : (at : ℕ) (marks new : List ℕ) (asked : ℕ) (step : Step) (choice : Choice) → at < length steps → asked ≡ slice_index marks at → step ≡ step_at steps at → choice ≡ choice_at choices at
      → AreMarksAfter l (length steps - suc at) steps choices marks → Marks l marks new (λ place. has_bit asked l && hands_on step choice place)
      → AreMarksAfter l (length steps - at) steps choices new
  marks-visited at marks new asked step choice within asked_is step_is choice_is are marks_them place there =
      let turns = length steps - suc at in
      let next : length steps - at ≡ suc turns = omega (arith, within) in
      let from : length steps - 1 - turns ≡ at = omega (arith, within) in
      let here : has_bit asked l ≡ needed_after turns steps choices at = ap (λ b. has_bit b l) asked_is ∙ are at within in
      rw next (rw from
      (marks_them place ∙ ap (λ b. b || (has_bit asked l && hands_on step choice place)) (are place there)
      ∙ ap (λ b. needed_after turns steps choices place || (b && hands_on step choice place)) here
      ∙ ap (λ s. needed_after turns steps choices place || (needed_after turns steps choices at && hands_on s choice place)) step_is
      ∙ ap (λ c. needed_after turns steps choices place || (needed_after turns steps choices at && hands_on (step_at steps at) c place)) choice_is))

  -- a step that no lane asks for
  pub marks-idle : (marks : List ℕ) (asked : ℕ) (these : ℕ → Bool) → asked ≡ 0 → Marks l marks marks (λ place. has_bit asked l && these place)
  marks-idle marks asked these none place =
      sym (ap (λ n. is_marked l marks place || (has_bit n l && these place)) none ∙ ap (λ b. is_marked l marks place || (b && these place)) (has_bit-zero l) ∙ or_false (is_marked l marks place))

  -- past the first step all turns are made
  pub marks-all : (marks : List ℕ) (at : ℕ) → at ≤ 0 → AreMarksAfter l (length steps - at) steps choices marks → AreMarks l steps choices marks
  marks-all marks at first are place within =
      let turns : length steps - at ≡ length steps = omega (arith, first) in
      subst (λ n. is_marked l marks place ≡ needed_after n steps choices place) turns (are place within)

-- two marks together are what a step hands on
pub marks-both : (l : ℕ) (old between new : List ℕ) (one two these : ℕ → Bool) → Marks l old between one → Marks l between new two → ((place : ℕ) → (one place || two place) ≡ these place) → Marks l old new these
marks-both l old between new one two these first second are place =
    second place ∙ ap (λ b. b || two place) (first place) ∙ joined (is_marked l old place) (one place) (two place) ∙ ap (λ b. is_marked l old place || b) (are place)
  where
    joined : (x y z : Bool) → ((x || y) || z) ≡ (x || (y || z))
    joined true y z = refl
    joined false y z = refl

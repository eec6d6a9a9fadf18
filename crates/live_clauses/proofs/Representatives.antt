-- Representatives: each is that of the chosen operand or the step itself, stands no later than its step, and stands for itself.
use Rattle.std.proofs.Common.{◌≡◌, ◌≢◌, ℕ, zero, suc, ◌<◌, ◌≤◌, List, length, Some, slice_get, inl, inr, ◌⊎◌, refl, ap, sym, subst, ◌∙◌, arith}
use Rattle.std.proofs.lemmas.Option.{slice_get-get_or}
use Rattle.fixed_ops.specs.declared.operation.Op.{Op}
use Rattle.fixed_ops.specs.declared.operation.Op.TheVariants.{Min, Max}
use Rattle.fixed_ops.specs.Arity.{arity_of}
use Rattle.interval_ops.specs.declared.choice.Choice.{Choice}
use Rattle.interval_ops.specs.declared.choice.Choice.TheVariants.{Left, Right, Both}
use Rattle.live_clauses.specs.declared.step.Step.{Step}
use Rattle.live_clauses.specs.Choices.{step_at, choice_at, AreChoices}
use Rattle.live_clauses.specs.Live.{chosen, represented, representative}
use Rattle.live_clauses.specs.Steps.{IsStepAt, AreSteps}

-- the step at a place within the list
pub slice_get-step_at : (steps : List Step) (place : ℕ) → place < length steps → slice_get steps place ≡ Some (step_at steps place)
slice_get-step_at steps place within = slice_get-get_or steps place _ within

pub step_at-stands : (steps : List Step) (place : ℕ) → AreSteps steps → place < length steps → IsStepAt place (step_at steps place)
step_at-stands steps place stand within = stand place (step_at steps place) (slice_get-step_at steps place within)

-- only a minimum and a maximum choose, and both have two operands
two_operands : (op : Op) (choice : Choice) → (op ≢ Min → op ≢ Max → choice ≡ Both) → choice ≢ Both → 1 < arity_of op
two_operands Min choice only chooses = omega arith
two_operands Max choice only chooses = omega arith
two_operands op choice only chooses = absurd (chooses (only (λ e. grind arith) (λ e. grind arith)))

-- what a choice is
pub choice_cases : (choice : Choice) → (choice ≡ Left) ⊎ ((choice ≡ Right) ⊎ (choice ≡ Both))
choice_cases Left = inl refl
choice_cases Right = inr (inl refl)
choice_cases Both = inr (inr refl)

pub left_chooses : (choice : Choice) → choice ≡ Left → choice ≢ Both
left_chooses choice is both = grind arith

pub right_chooses : (choice : Choice) → choice ≡ Right → choice ≢ Both
right_chooses choice is both = grind arith

chosen_same : {A : Type 0} (choice : Choice) (x y u v own : A) → (choice ≢ Both → (x ≡ u) × (y ≡ v)) → chosen choice x y own ≡ chosen choice u v own
chosen_same Left x y u v own same = (same (left_chooses Left refl)).0
chosen_same Right x y u v own same = (same (right_chooses Right refl)).1
chosen_same Both x y u v own same = refl

pub chosen_left : {A : Type 0} (choice : Choice) (x y own : A) → choice ≡ Left → chosen choice x y own ≡ x
chosen_left choice x y own is = ap (λ c. chosen c x y own) is

pub chosen_right : {A : Type 0} (choice : Choice) (x y own : A) → choice ≡ Right → chosen choice x y own ≡ y
chosen_right choice x y own is = ap (λ c. chosen c x y own) is

pub chosen_both : {A : Type 0} (choice : Choice) (x y own : A) → choice ≡ Both → chosen choice x y own ≡ own
chosen_both choice x y own is = ap (λ c. chosen c x y own) is

chosen_own : {A : Type 0} (choice : Choice) (x y own : A) → (choice ≢ Both → ⊥) → chosen choice x y own ≡ own
chosen_own Left x y own never = absurd (never (left_chooses Left refl))
chosen_own Right x y own never = absurd (never (right_chooses Right refl))
chosen_own Both x y own never = refl

module _ (steps : List Step) (choices : List Choice) (stand : AreSteps steps) (choose : AreChoices steps choices) where
  -- a step that chooses has both operands, before it
  pub choosing_operands : (place : ℕ) → place < length steps → choice_at choices place ≢ Both
      → (1 < arity_of (step_at steps place).op) × ((step_at steps place).a < place) × ((step_at steps place).b < place)
  choosing_operands place within chooses =
      let stands = step_at-stands steps place stand within in
      let two = two_operands (step_at steps place).op (choice_at choices place) (choose place (step_at steps place) (slice_get-step_at steps place within)) chooses in
      (two, stands.fits.first (omega (arith, two)), stands.fits.second two)

  -- as many turns as the place are enough
  represented_enough : (m n place : ℕ) → place < length steps → place ≤ m → place ≤ n → represented m steps choices place ≡ represented n steps choices place
  represented_enough zero zero place within enough also = refl
  represented_enough zero (suc n) place within enough also =
      sym (chosen_own (choice_at choices place) _ _ place (λ chooses. let before = choosing_operands place within chooses in omega (arith, before.1)))
  represented_enough (suc m) zero place within enough also =
      chosen_own (choice_at choices place) _ _ place (λ chooses. let before = choosing_operands place within chooses in omega (arith, before.1))
  represented_enough (suc m) (suc n) place within enough also =
      chosen_same (choice_at choices place) _ _ _ _ place (λ chooses.
      let before = choosing_operands place within chooses in (
        represented_enough m n (step_at steps place).a (omega (arith, before.1)) (omega (arith, before.1)) (omega (arith, before.1)),
        represented_enough m n (step_at steps place).b (omega (arith, before.2)) (omega (arith, before.2)) (omega (arith, before.2)),
      ))

  -- the representative of a step is that of its chosen operand, or the step itself
  pub representative-chosen : (place : ℕ) → place < length steps
      → representative steps choices place
      ≡ chosen (choice_at choices place) (representative steps choices (step_at steps place).a) (representative steps choices (step_at steps place).b) place
  representative-chosen place within =
      represented_enough place (suc place) place within (omega arith) (omega arith)
      ∙ chosen_same (choice_at choices place) _ _ _ _ place (λ chooses.
      let before = choosing_operands place within chooses in (
        represented_enough place (step_at steps place).a (step_at steps place).a (omega (arith, before.1)) (omega (arith, before.1)) (omega arith),
        represented_enough place (step_at steps place).b (step_at steps place).b (omega (arith, before.2)) (omega (arith, before.2)) (omega arith),
      ))

  pub representative_left : (place : ℕ) → place < length steps → choice_at choices place ≡ Left → representative steps choices place ≡ representative steps choices (step_at steps place).a
  representative_left place within left = representative-chosen place within ∙ chosen_left _ _ _ place left

  pub representative_right : (place : ℕ) → place < length steps → choice_at choices place ≡ Right → representative steps choices place ≡ representative steps choices (step_at steps place).b
  representative_right place within right = representative-chosen place within ∙ chosen_right _ _ _ place right

  pub representative_both : (place : ℕ) → place < length steps → choice_at choices place ≡ Both → representative steps choices place ≡ place
  representative_both place within both = representative-chosen place within ∙ chosen_both _ _ _ place both

  -- What holds of a step that stands for itself, and of each step that chooses an operand of which it holds, holds
  -- of every step and its representative.
  pub representative_holds : (P : ℕ → ℕ → Type 0)
      → ((place : ℕ) → place < length steps → choice_at choices place ≡ Both → P place place)
      → ((place at : ℕ) → place < length steps → choice_at choices place ≡ Left → P (step_at steps place).a at → P place at)
      → ((place at : ℕ) → place < length steps → choice_at choices place ≡ Right → P (step_at steps place).b at → P place at)
      → (place : ℕ) → place < length steps → P place (representative steps choices place)
  representative_holds P own left right place within = below (suc place) place (omega arith) within
    where
      below : (bound place : ℕ) → place < bound → place < length steps → P place (representative steps choices place)
      below zero place less within = absurd (omega arith)
      below (suc bound) place less within =
          elim (choice_cases (choice_at choices place)) [
            | inl is ↦
                let before = choosing_operands place within (left_chooses _ is) in
                subst (P place) (sym (representative_left place within is)) (left place _ within is (below bound (step_at steps place).a (omega (arith, before.1)) (omega (arith, before.1))))
            | inr other ↦ elim other [
              | inl is ↦
                  let before = choosing_operands place within (right_chooses _ is) in
                  subst (P place) (sym (representative_right place within is)) (right place _ within is (below bound (step_at steps place).b (omega (arith, before.2)) (omega (arith, before.2))))
              | inr is ↦ subst (P place) (sym (representative_both place within is)) (own place within is)
            ]
          ]

  -- it stands no later than the step
  pub representative-le : (place : ℕ) → place < length steps → representative steps choices place ≤ place
  representative-le = representative_holds (λ place at. at ≤ place) (λ place within is. omega arith)
      (λ place at within is less. let before = choosing_operands place within (left_chooses _ is) in omega (arith, before.1))
      (λ place at within is less. let before = choosing_operands place within (right_chooses _ is) in omega (arith, before.2))

  -- and stands for itself
  pub representative-both : (place : ℕ) → place < length steps → choice_at choices (representative steps choices place) ≡ Both
  representative-both = representative_holds (λ place at. choice_at choices at ≡ Both) (λ place within is. is) (λ place at within is both. both) (λ place at within is both. both)

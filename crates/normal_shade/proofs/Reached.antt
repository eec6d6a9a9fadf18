-- The dual number of a step that is reached, from those of its operands that are reached with it.
use Rattle.std.proofs.Common.{◌≡◌, ◌≢◌, ◌∙◌, ◌⊎◌, ℕ, zero, suc, ◌+◌, ◌-◌, ◌*◌, ◌<◌, ℤ, Bool, true, false, cond, inl, inr, Some, List, [], ap, arith, get_or, length, refl, set, slice_get, subst, sym}
use Rattle.std.specs.Prelude.{int_le}
use Rattle.std.specs.List.{range_with_len, sum_by}
use Rattle.std.proofs.lemmas.Bool.{cases_eq, false≢true}
use Rattle.std.proofs.lemmas.List.{get_or-set_same, get_or-set_other, same_lists}
use Rattle.std.proofs.lemmas.List.Sums.{sum_by-cons}
use Rattle.std.proofs.lemmas.List.FromFn.{get_or-map-range_with_len, length-map-range_with_len}
use Rattle.std.proofs.lemmas.Option.{get_or_from_slice_get, slice_get_within}
use Rattle.fixed_ops.specs.Arity.{arity_of}
use Rattle.fixed_ops.specs.Points.{Point, step_value}
use Rattle.fixed_ops.specs.Slopes.{Sloped, flat, step_sloped}
use Rattle.fixed_ops.specs.declared.operation.Op.{Op}
use Rattle.fixed_ops.specs.declared.operation.Op.TheVariants.{X, Y, Z, Const, Neg, Square, Sqrt, Abs, Floor, Add, Sub, Mul, Div, Min, Max}
use Rattle.choice_trace.specs.Lanes.{in_lane, number_at as number_in}
use Rattle.interval_ops.specs.declared.choice.Choice.{Choice}
use Rattle.interval_ops.specs.declared.choice.Choice.TheVariants.{Left, Right, Both}
use Rattle.live_clauses.specs.Choices.{AreChoices, choice_at, step_at}
use Rattle.live_clauses.specs.Live.{is_needed}
use Rattle.live_clauses.specs.Marks.{AreMarks}
use Rattle.live_clauses.specs.Meanings.{meaning_at, sloped_at, tape_meaning}
use Rattle.live_clauses.specs.Steps.{IsTape, value_at}
use Rattle.live_clauses.specs.declared.step.Step.{Step}
use Rattle.live_clauses.proofs.MeaningLaws.{meaning_at-step}
use Rattle.live_clauses.proofs.SlopeLaws.{sloped_at-reads, slopes_stand_by_values}
use Rattle.live_clauses.proofs.ValueLaws.{number_at, number_at-reads}
use Rattle.live_clauses.proofs.MarkTurns.{first_within, second_within}
use Rattle.live_clauses.proofs.Representatives.{slice_get-step_at}
use Rattle.live_clauses.proofs.Needs.{hands_on_first, hands_on_left, hands_on_right, hands_on_second, needed_last, needed_on}
use Rattle.normal_shade.specs.Branches.{branch, branches_at, branches_of, is_reached}
use Rattle.normal_shade.specs.DualWork.{derivative_cost, derivative_cost_at, derivatives_below}
use Rattle.normal_shade.specs.Duals.{AreDuals, HasValues, MarksReached, dual_in, dual_of}

-- an operand of a step whose branch is not the other one
abbrev First : Op → Choice → Type 0
First op choice = (choice ≡ Right → false ≡ true) × (0 < arity_of op)

abbrev Second : Op → Choice → Type 0
Second op choice = (choice ≡ Left → false ≡ true) × (1 < arity_of op)

left≢right : Left ≡ Right → false ≡ true
left≢right same = absurd (grind arith)

right≢left : Right ≡ Left → false ≡ true
right≢left same = absurd (grind arith)

both≢right : Both ≡ Right → false ≡ true
both≢right same = absurd (grind arith)

both≢left : Both ≡ Left → false ≡ true
both≢left same = absurd (grind arith)

-- the dual number that is made of those operands that are read is the step's
dual_is : (op : Op) (p : Point) (constant : ℤ) (a b da db : Sloped)
    → (First op (branch op a.value b.value) → da ≡ a) → (Second op (branch op a.value b.value) → db ≡ b)
    → dual_of op (step_value op p constant a.value b.value) a.value b.value da db ≡ step_sloped op p constant a b
dual_is X p constant a b da db first second = refl
dual_is Y p constant a b da db first second = refl
dual_is Z p constant a b da db first second = refl
dual_is Const p constant a b da db first second = refl
dual_is Floor p constant a b da db first second = refl
dual_is Neg p constant a b da db first second =
    let same : da ≡ a = first (both≢right, omega arith) in rw same refl
dual_is Square p constant a b da db first second =
    let same : da ≡ a = first (both≢right, omega arith) in rw same refl
dual_is Sqrt p constant a b da db first second =
    let same : da ≡ a = first (both≢right, omega arith) in rw same refl
dual_is Abs p constant a b da db first second =
    let same : da ≡ a = first (both≢right, omega arith) in rw same refl
dual_is Add p constant a b da db first second =
    let same : da ≡ a = first (both≢right, omega arith) in
    let other : db ≡ b = second (both≢left, omega arith) in rw (same, other) refl
dual_is Sub p constant a b da db first second =
    let same : da ≡ a = first (both≢right, omega arith) in
    let other : db ≡ b = second (both≢left, omega arith) in rw (same, other) refl
dual_is Mul p constant a b da db first second =
    let same : da ≡ a = first (both≢right, omega arith) in
    let other : db ≡ b = second (both≢left, omega arith) in rw (same, other) refl
dual_is Div p constant a b da db first second =
    let same : da ≡ a = first (both≢right, omega arith) in
    let other : db ≡ b = second (both≢left, omega arith) in rw (same, other) refl
dual_is Min p constant a b da db first second = by (int_le a.value b.value) refl
  where
    by : (t : Bool) → int_le a.value b.value ≡ t
        → dual_of Min (step_value Min p constant a.value b.value) a.value b.value da db ≡ step_sloped Min p constant a b
    by true e = let same : da ≡ a = first (subst (λ u. cond u Left Right ≡ Right → false ≡ true) (sym e) left≢right, omega arith) in rw (same, e) refl
    by false e = let same : db ≡ b = second (subst (λ u. cond u Left Right ≡ Left → false ≡ true) (sym e) right≢left, omega arith) in rw (same, e) refl
dual_is Max p constant a b da db first second = by (int_le b.value a.value) refl
  where
    by : (t : Bool) → int_le b.value a.value ≡ t
        → dual_of Max (step_value Max p constant a.value b.value) a.value b.value da db ≡ step_sloped Max p constant a b
    by true e = let same : da ≡ a = first (subst (λ u. cond u Left Right ≡ Right → false ≡ true) (sym e) left≢right, omega arith) in rw (same, e) refl
    by false e = let same : db ≡ b = second (subst (λ u. cond u Left Right ≡ Left → false ≡ true) (sym e) right≢left, omega arith) in rw (same, e) refl

-- its value is that of the step
pub dual-value : (op : Op) (r a b : ℤ) (da db : Sloped) → (dual_of op r a b da db).value ≡ r
dual-value X r a b da db = refl
dual-value Y r a b da db = refl
dual-value Z r a b da db = refl
dual-value op r a b da db = refl

-- so values stay where a dual number takes the place of its value
pub values-stay : (duals : List Sloped) (at : ℕ) (new : Sloped) (place : ℕ) → at < length duals → new.value ≡ (dual_in at duals).value
    → (dual_in place (set duals at new)).value ≡ (dual_in place duals).value
values-stay duals at new place room same =
    elim (cases_eq place at) [
      | inl e ↦ ap (λ (k : ℕ). (get_or (set duals at new) k flat).value) e ∙ ap (λ (d : Sloped). d.value) (get_or-set_same duals at new flat room) ∙ same ∙ ap (λ (k : ℕ). (get_or duals k flat).value) (sym e)
      | inr other ↦ ap (λ (d : Sloped). d.value) (get_or-set_other duals at place new flat other)
    ]

-- only a minimum and a maximum take a branch
branch-only : (op : Op) (a b : ℤ) → op ≢ Min → op ≢ Max → branch op a b ≡ Both
branch-only Min a b min max = absurd (min refl)
branch-only Max a b min max = absurd (max refl)
branch-only op a b min max = refl

-- the branch of the step at a place
pub branch-at : (steps : List Step) (value : ℕ → ℤ) (place : ℕ) → place < length steps
    → choice_at (branches_of steps value) place ≡ branch (step_at steps place).op (value (step_at steps place).a) (value (step_at steps place).b)
branch-at steps value place within =
    get_or-map-range_with_len (λ k. branch (step_at steps k).op (value (step_at steps k).a) (value (step_at steps k).b)) 0 (length steps) place place Both within (omega arith)

pub branches-choose : (steps : List Step) (value : ℕ → ℤ) → AreChoices steps (branches_of steps value)
branches-choose steps value place step is min max =
    let within = slice_get_within steps place step is in
    let there : step_at steps place ≡ step = get_or_from_slice_get steps place step _ is in
    branch-at steps value place within
    ∙ branch-only (step_at steps place).op _ _ (λ e. min (ap (λ (s : Step). s.op) (sym there) ∙ e)) (λ e. max (ap (λ (s : Step). s.op) (sym there) ∙ e))

-- the branch of a step
pub branch-is : (steps : List Step) (value : ℕ → ℤ) (place : ℕ) (step : Step) → slice_get steps place ≡ Some step
    → choice_at (branches_of steps value) place ≡ branch step.op (value step.a) (value step.b)
branch-is steps value place step is =
    branch-at steps value place (slice_get_within steps place step is)
    ∙ ap (λ (s : Step). branch s.op (value s.a) (value s.b)) (get_or_from_slice_get steps place step _ is)

-- and in a lane of rows of values: that of a minimum, of a maximum, and of any other
module _ (steps : List Step) (rows : List (List ℤ)) (place l : ℕ) (step : Step) (x y : List ℤ) (is : slice_get steps place ≡ Some step) (first : x ≡ get_or rows step.a []) (second : y ≡ get_or rows step.b []) where
  pub lane-min : step.op ≡ Min → cond (int_le (in_lane l x) (in_lane l y)) Left Right ≡ choice_at (branches_of steps (number_in l rows)) place
  lane-min op =
      ap (λ r. cond (int_le (in_lane l r) (in_lane l y)) Left Right) first ∙ ap (λ r. cond (int_le (number_in l rows step.a) (in_lane l r)) Left Right) second
      ∙ sym (branch-is steps (number_in l rows) place step is ∙ ap (λ o. branch o (number_in l rows step.a) (number_in l rows step.b)) op)

  pub lane-max : step.op ≡ Max → cond (int_le (in_lane l y) (in_lane l x)) Left Right ≡ choice_at (branches_of steps (number_in l rows)) place
  lane-max op =
      ap (λ r. cond (int_le (in_lane l y) (in_lane l r)) Left Right) first ∙ ap (λ r. cond (int_le (in_lane l r) (number_in l rows step.a)) Left Right) second
      ∙ sym (branch-is steps (number_in l rows) place step is ∙ ap (λ o. branch o (number_in l rows step.a) (number_in l rows step.b)) op)

  pub lane-both : step.op ≢ Min → step.op ≢ Max → Both ≡ choice_at (branches_of steps (number_in l rows)) place
  lane-both min max = sym (branch-is steps (number_in l rows) place step is ∙ branch-only step.op _ _ min max)

-- there is a branch for each step
pub branches-length : (steps : List Step) (value : ℕ → ℤ) → length (branches_of steps value) ≡ length steps
branches-length steps value = length-map-range_with_len (λ k. branch (step_at steps k).op (value (step_at steps k).a) (value (step_at steps k).b)) 0 (length steps)

-- a sum of one number more
pub sum-more : (f : ℕ → ℕ) (a n j : ℕ) → a + n ≡ j → sum_by f (range_with_len a (suc n)) ≡ sum_by f (range_with_len a n) + f j
sum-more f a zero j e =
    let same : a ≡ j = omega (arith, e) in
    omega (arith, sum_by-cons f a (range_with_len (a + 1) 0), ap f same)
sum-more f a (suc n) j e =
    let part : sum_by f (range_with_len a (suc n)) ≡ f a + sum_by f (range_with_len (a + 1) n) = sum_by-cons f a (range_with_len (a + 1) n) in
    sum_by-cons f a (range_with_len (a + 1) (suc n)) ∙ omega (arith, part, sum-more f (a + 1) n j (omega (arith, e)))

pub below-more : (f : ℕ → ℕ) (n : ℕ) → sum_by f (range_with_len 0 (n + 1)) ≡ sum_by f (range_with_len 0 n) + f n
below-more f n = let next : n + 1 ≡ suc n = omega arith in ap (λ m. sum_by f (range_with_len 0 m)) next ∙ sum-more f 0 n n (omega arith)

-- as much more for each of some numbers
pub sum-lanes : (f : ℕ → ℕ) (m n : ℕ) → n * m + sum_by f (range_with_len 0 n) ≡ sum_by (λ k. m + f k) (range_with_len 0 n)
sum-lanes f m zero = omega arith
sum-lanes f m (suc n) =
    let times : suc n * m ≡ n * m + m = grind arith in
    omega (arith, times, sum-more f 0 n n (omega arith), sum-more (λ k. m + f k) 0 n n (omega arith), sum-lanes f m n)

-- the branch at a place, at any default
branch-any : (steps : List Step) (value : ℕ → ℤ) (place : ℕ) (d : Choice) → place < length steps
    → get_or (branches_of steps value) place d ≡ branch (step_at steps place).op (value (step_at steps place).a) (value (step_at steps place).b)
branch-any steps value place d within =
    get_or-map-range_with_len (λ k. branch (step_at steps k).op (value (step_at steps k).a) (value (step_at steps k).b)) 0 (length steps) place place d within (omega arith)

-- a choice, as it may be
choice-cases : (choice : Choice) → (choice ≡ Left) ⊎ ((choice ≡ Right) ⊎ (choice ≡ Both))
choice-cases Left = inl refl
choice-cases Right = inr (inl refl)
choice-cases Both = inr (inr refl)

module _ (p : Point) (steps : List Step) (tape : IsTape steps) where
  -- the last step is reached
  pub last-reached : is_reached p steps (length steps - 1) ≡ true
  last-reached = needed_last steps (branches_at p steps) tape.some tape.each (branches-choose steps (value_at p steps))

  -- and with a step those operands that it reads
  first-reached : (place : ℕ) → place < length steps → is_reached p steps place ≡ true
      → First (step_at steps place).op (branch (step_at steps place).op (value_at p steps (step_at steps place).a) (value_at p steps (step_at steps place).b))
      → is_reached p steps (step_at steps place).a ≡ true
  first-reached place within reached first =
      let choices = branches_at p steps in
      let choice = choice_at choices place in
      let is = branch-at steps (value_at p steps) place within in
      needed_on steps choices tape.some tape.each (branches-choose steps (value_at p steps)) place (step_at steps place).a within reached
      (elim (choice-cases choice) [
        | inl left ↦ hands_on_left (step_at steps place) choice left
        | inr other ↦ elim other [
          | inl right ↦ absurd (false≢true (first.0 (sym is ∙ right)))
          | inr both ↦ hands_on_first (step_at steps place) choice both first.1
        ]
      ])

  second-reached : (place : ℕ) → place < length steps → is_reached p steps place ≡ true
      → Second (step_at steps place).op (branch (step_at steps place).op (value_at p steps (step_at steps place).a) (value_at p steps (step_at steps place).b))
      → is_reached p steps (step_at steps place).b ≡ true
  second-reached place within reached second =
      let choices = branches_at p steps in
      let choice = choice_at choices place in
      let is = branch-at steps (value_at p steps) place within in
      needed_on steps choices tape.some tape.each (branches-choose steps (value_at p steps)) place (step_at steps place).b within reached
      (elim (choice-cases choice) [
        | inl left ↦ absurd (false≢true (second.0 (sym is ∙ left)))
        | inr other ↦ elim other [
          | inl right ↦ hands_on_right (step_at steps place) choice right
          | inr both ↦ hands_on_second (step_at steps place) choice both second.1
        ]
      ])

  -- a step reads values of the list alone
  within-first : (place : ℕ) (step : Step) → slice_get steps place ≡ Some step → step.a < length steps
  within-first place step is = first_within place (length steps) step (tape.each place step is) (slice_get_within steps place step is)

  within-second : (place : ℕ) (step : Step) → slice_get steps place ≡ Some step → step.b < length steps
  within-second place step is = second_within place (length steps) step (tape.each place step is) (slice_get_within steps place step is)

  -- the same values make the same branches
  same_branches : (value : ℕ → ℤ) → HasValues p steps value → branches_of steps value ≡ branches_at p steps
  same_branches value values =
      same_lists (branches_of steps value) (branches_at p steps) (branches-length steps value ∙ sym (branches-length steps (value_at p steps)))
      (λ k d within.
      let inside : k < length steps = omega (arith, within, branches-length steps value) in
      let step = step_at steps k in
      let is : slice_get steps k ≡ Some step = slice_get-step_at steps k inside in
      branch-any steps value k d inside
      ∙ ap (λ v. branch step.op v (value step.b)) (values step.a (within-first k step is))
      ∙ ap (λ v. branch step.op (value_at p steps step.a) v) (values step.b (within-second k step is))
      ∙ sym (branch-any steps (value_at p steps) k d inside))

  -- a step has its value from those of its operands
  value-is : (place : ℕ) (step : Step) → slice_get steps place ≡ Some step
      → value_at p steps place ≡ step_value step.op p step.value (value_at p steps step.a) (value_at p steps step.b)
  value-is place step is = meaning_at-step (number_at p) (number_at-reads p) steps place step tape.each is

  -- a step that is reached has its dual number, by those of the operands that are reached with it
  pub dual-more : (place : ℕ) (step : Step) (value : ℕ → ℤ) (dual : ℕ → Sloped) → slice_get steps place ≡ Some step → HasValues p steps value
      → AreDuals p steps dual place → is_reached p steps place ≡ true
      → dual_of step.op (value place) (value step.a) (value step.b) (dual step.a) (dual step.b) ≡ meaning_at (sloped_at p) steps place
  dual-more place step value dual is values read reached =
      let within : place < length steps = slice_get_within steps place step is in
      let there : step_at steps place ≡ step = get_or_from_slice_get steps place step _ is in
      let stands = tape.each place step is in
      let a = meaning_at (sloped_at p) steps step.a in
      let b = meaning_at (sloped_at p) steps step.b in
      let value_a : value_at p steps step.a ≡ a.value = sym (slopes_stand_by_values p steps step.a) in
      let value_b : value_at p steps step.b ≡ b.value = sym (slopes_stand_by_values p steps step.b) in
      let at_a = within-first place step is in
      let at_b = within-second place step is in
      let is_a : value step.a ≡ a.value = values step.a at_a ∙ value_a in
      let is_b : value step.b ≡ b.value = values step.b at_b ∙ value_b in
      let is_r : value place ≡ step_value step.op p step.value a.value b.value =
      values place within ∙ value-is place step is ∙ ap (λ v. step_value step.op p step.value v (value_at p steps step.b)) value_a ∙ ap (λ v. step_value step.op p step.value a.value v) value_b in
      let takes : branch (step_at steps place).op (value_at p steps (step_at steps place).a) (value_at p steps (step_at steps place).b) ≡ branch step.op a.value b.value =
      ap (λ (s : Step). branch s.op (value_at p steps s.a) (value_at p steps s.b)) there ∙ ap (λ v. branch step.op v (value_at p steps step.b)) value_a ∙ ap (λ v. branch step.op a.value v) value_b in
      let first : First step.op (branch step.op a.value b.value) → dual step.a ≡ a = λ reads.
      read step.a (stands.fits.first reads.1)
      (subst (λ (s : Step). is_reached p steps s.a ≡ true) there (first-reached place within reached
      (λ right. reads.0 (sym takes ∙ right), subst (λ (s : Step). 0 < arity_of s.op) (sym there) reads.1))) in
      let second : Second step.op (branch step.op a.value b.value) → dual step.b ≡ b = λ reads.
      read step.b (stands.fits.second reads.1)
      (subst (λ (s : Step). is_reached p steps s.b ≡ true) there (second-reached place within reached
      (λ left. reads.0 (sym takes ∙ left), subst (λ (s : Step). 1 < arity_of s.op) (sym there) reads.1))) in
      ap (λ r. dual_of step.op r (value step.a) (value step.b) (dual step.a) (dual step.b)) is_r
      ∙ ap (λ v. dual_of step.op (step_value step.op p step.value a.value b.value) v (value step.b) (dual step.a) (dual step.b)) is_a
      ∙ ap (λ v. dual_of step.op (step_value step.op p step.value a.value b.value) a.value v (dual step.a) (dual step.b)) is_b
      ∙ dual_is step.op p step.value a b (dual step.a) (dual step.b) first second
      ∙ sym (meaning_at-step (sloped_at p) (sloped_at-reads p) steps place step tape.each is)

  -- so one more of them stands
  pub duals-next : (place : ℕ) (was dual : ℕ → Sloped) → AreDuals p steps was place → ((k : ℕ) → k < place → dual k ≡ was k)
      → (is_reached p steps place ≡ true → dual place ≡ meaning_at (sloped_at p) steps place) → AreDuals p steps dual (place + 1)
  duals-next place was dual read kept made k below reached =
      elim (cases_eq k place) [
        | inl e ↦ ap dual e ∙ made (subst (λ i. is_reached p steps i ≡ true) e reached) ∙ ap (meaning_at (sloped_at p) steps) (sym e)
        | inr other ↦ kept k (omega (arith, below, other)) ∙ read k (omega (arith, below, other)) reached
      ]

  pub duals-more : (place : ℕ) (duals : List Sloped) (new : Sloped) → place < length duals → AreDuals p steps (λ k. dual_in k duals) place
      → (is_reached p steps place ≡ true → new ≡ meaning_at (sloped_at p) steps place) → AreDuals p steps (λ k. dual_in k (set duals place new)) (place + 1)
  duals-more place duals new room read made =
      duals-next place (λ k. dual_in k duals) (λ k. dual_in k (set duals place new)) read
      (λ k below. get_or-set_other duals place k new flat (λ e. omega (arith, below, e)))
      (λ reached. get_or-set_same duals place new flat room ∙ made reached)

  pub duals-stay : (place : ℕ) (dual : ℕ → Sloped) → AreDuals p steps dual place → is_reached p steps place ≡ false → AreDuals p steps dual (place + 1)
  duals-stay place dual read unreached =
      duals-next place dual dual read (λ k below. refl) (λ reached. absurd (false≢true (sym unreached ∙ reached)))

  -- what the derivatives of one more step take
  pub cost-more : (place : ℕ) (step : Step) (value : ℕ → ℤ) (cost : ℕ) → slice_get steps place ≡ Some step → HasValues p steps value → is_reached p steps place ≡ true
      → cost ≡ derivatives_below p steps place → cost + derivative_cost step.op (value step.a) (value step.b) (value place) ≡ derivatives_below p steps (place + 1)
  cost-more place step value cost is values reached so_far =
      let within : place < length steps = slice_get_within steps place step is in
      let there : step_at steps place ≡ step = get_or_from_slice_get steps place step _ is in
      let stands = tape.each place step is in
      let at_a = within-first place step is in
      let at_b = within-second place step is in
      let here : derivative_cost step.op (value step.a) (value step.b) (value place) ≡ derivative_cost_at p steps place =
      ap (λ v. derivative_cost step.op v (value step.b) (value place)) (values step.a at_a)
      ∙ ap (λ v. derivative_cost step.op (value_at p steps step.a) v (value place)) (values step.b at_b)
      ∙ ap (λ v. derivative_cost step.op (value_at p steps step.a) (value_at p steps step.b) v) (values place within)
      ∙ ap (λ (s : Step). derivative_cost s.op (value_at p steps s.a) (value_at p steps s.b) (value_at p steps place)) (sym there) in
      let one : cond (is_reached p steps place) (derivative_cost_at p steps place) 0 ≡ derivative_cost_at p steps place = rw reached refl in
      let more : derivatives_below p steps (place + 1) ≡ derivatives_below p steps place + cond (is_reached p steps place) (derivative_cost_at p steps place) 0 =
      below-more (λ k. cond (is_reached p steps k) (derivative_cost_at p steps k) 0) place in
      omega (arith, so_far, here, one, more)

  pub cost-stays : (place cost : ℕ) → is_reached p steps place ≡ false → cost ≡ derivatives_below p steps place → cost ≡ derivatives_below p steps (place + 1)
  cost-stays place cost unreached so_far =
      let none : cond {A = ℕ} (is_reached p steps place) (derivative_cost_at p steps place) 0 ≡ 0 = rw unreached refl in
      let more : derivatives_below p steps (place + 1) ≡ derivatives_below p steps place + cond (is_reached p steps place) (derivative_cost_at p steps place) 0 =
      below-more (λ k. cond (is_reached p steps k) (derivative_cost_at p steps k) 0) place in
      omega (arith, so_far, none, more)

  -- the last step has the list's dual number
  pub last-dual : (dual : ℕ → Sloped) → AreDuals p steps dual (length steps) → dual (length steps - 1) ≡ tape_meaning (sloped_at p) steps
  last-dual dual read = read (length steps - 1) (omega (arith, tape.some)) last-reached

  -- the marks that the values leave are those of the steps that are reached
  pub marks-reach : (l : ℕ) (value : ℕ → ℤ) (marks : List ℕ) → HasValues p steps value → AreMarks l steps (branches_of steps value) marks → MarksReached p steps l marks
  marks-reach l value marks values are place within =
      are place within ∙ ap (λ choices. is_needed steps choices place) (same_branches value values)

  -- what a walk up the list writes at a step that is reached, from what it read
  module _ (place : ℕ) (step : Step) (value : ℕ → ℤ) (is : slice_get steps place ≡ Some step) (values : HasValues p steps value) (reached : is_reached p steps place ≡ true) (r left right : ℤ) (here : r ≡ value place) (first : left ≡ value step.a) (second : right ≡ value step.b) where
    pub dual-written : (dual : ℕ → Sloped) (da db : Sloped) → da ≡ dual step.a → db ≡ dual step.b → AreDuals p steps dual place
        → dual_of step.op r left right da db ≡ meaning_at (sloped_at p) steps place
    dual-written dual da db for_a for_b read =
        ap (λ v. dual_of step.op v left right da db) here ∙ ap (λ v. dual_of step.op (value place) v right da db) first
        ∙ ap (λ v. dual_of step.op (value place) (value step.a) v da db) second
        ∙ ap (λ d. dual_of step.op (value place) (value step.a) (value step.b) d db) for_a
        ∙ ap (λ d. dual_of step.op (value place) (value step.a) (value step.b) (dual step.a) d) for_b
        ∙ dual-more place step value dual is values read reached

    pub cost-written : (count cost : ℕ) → count ≡ derivatives_below p steps place → cost ≡ derivative_cost step.op left right r → count + cost ≡ derivatives_below p steps (place + 1)
    cost-written count cost so_far same =
        ap (λ n. count + n) (same ∙ ap (λ v. derivative_cost step.op v right r) first ∙ ap (λ v. derivative_cost step.op (value step.a) v r) second ∙ ap (λ v. derivative_cost step.op (value step.a) (value step.b) v) here)
        ∙ cost-more place step value count is values reached so_far

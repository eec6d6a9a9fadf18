-- A constant keeps the place of its number, which is within the table where the list can be evaluated.
use Rattle.std.proofs.Common.{◌≡◌, ◌≢◌, ℕ, ◌<◌, ◌^◌, ℤ, pos, Bool, true, false, cond, List, [], ◌∷◌, ◌++◌, length, map, get_or, inl, inr, refl, ap, sym, subst, ◌∙◌, arith}
use Rattle.std.proofs.lemmas.Bool.{false≢true, cases_lt}
use Rattle.std.proofs.lemmas.Int.{ints}
use Rattle.std.proofs.lemmas.List.{get_or-map, get_or_append_left, get_or_at, get_or_default, get_or_past, length-map, map_push, same_lists}
use Rattle.std.proofs.lemmas.Option.{slice_get-get_or}
use Rattle.fixed_ops.specs.Arity.{arity_of}
use Rattle.fixed_ops.specs.Raw.{IsRaw}
use Rattle.fixed_ops.specs.declared.operation.Op.{Op}
use Rattle.fixed_ops.specs.declared.operation.Op.TheVariants.{X, Const, Min, Max}
use Rattle.interval_ops.specs.declared.choice.Choice.{Choice}
use Rattle.interval_ops.specs.declared.choice.Choice.TheVariants.{Both}
use Rattle.live_clauses.specs.declared.packed_step.PackedStep.{PackedStep}
use Rattle.live_clauses.specs.declared.step.Step.{Step}
use Rattle.live_clauses.specs.Choices.{step_at, choice_at, AreChoices}
use Rattle.live_clauses.specs.Live.{chosen}
use Rattle.live_clauses.specs.Packed.{first_of, is_constant, number_in, unpacked}
use Rattle.live_clauses.specs.Steps.{AreSteps, IsStepAt}
use Rattle.live_clauses.proofs.Representatives.{step_at-stands}

pub constant_is : (op : Op) → is_constant op ≡ true → op ≡ Const
constant_is Const is = refl
constant_is op is = absurd (false≢true is)

pub not_constant : (op : Op) → op ≢ Const → is_constant op ≡ false
not_constant Const not = absurd (not refl)
not_constant op not = refl

pub is_not_constant : (op : Op) → is_constant op ≡ false → op ≢ Const
is_not_constant op is same = false≢true (sym is ∙ ap is_constant same)

pub constant-arity : (op : Op) → is_constant op ≡ true → arity_of op ≡ 0
constant-arity op is = ap arity_of (constant_is op is)

cond_same : {A : Type 0} (b : Bool) (x y z : A) → (b ≡ true → x ≡ y) → cond b x z ≡ cond b y z
cond_same true x y z same = same refl
cond_same false x y z same = refl

-- the first operand is kept where the step is no constant
pub first-kept : (kept : PackedStep) → is_constant kept.op ≡ false → first_of kept ≡ kept.a
first-kept kept is = ap (λ b. cond b 0 kept.a) is

past_not_raw : IsRaw (pos (2 ^ 62)) → ⊥
past_not_raw raw = omega (arith, ints, raw.1)

-- the place of a raw number is within the table
pub stored : (constants : List ℤ) (kept : PackedStep) → IsRaw (unpacked constants kept).value → is_constant kept.op ≡ true → kept.a < length constants
stored constants kept raw is = elim (cases_lt kept.a (length constants)) [
  | inl within ↦ within
  | inr past ↦
      let value : (unpacked constants kept).value ≡ pos (2 ^ 62) = ap (λ b. cond b (number_in constants kept.a) (pos 0)) is ∙ get_or_past constants kept.a (pos (2 ^ 62)) past in
      absurd (past_not_raw (subst IsRaw value raw))
]

-- a longer table has the same numbers
unpacked-more : (constants more : List ℤ) (kept : PackedStep) → IsRaw (unpacked constants kept).value → unpacked (constants ++ more) kept ≡ unpacked constants kept
unpacked-more constants more kept raw =
    let made : ℤ → Step = λ v. record { op = kept.op; a = first_of kept; b = kept.b; value = v } in
    ap made (cond_same (is_constant kept.op) (number_in (constants ++ more) kept.a) (number_in constants kept.a) (pos 0)
    (λ is. get_or_append_left constants more (pos (2 ^ 62)) kept.a (stored constants kept raw is)))

-- what stands at a place, read as a program reads it
abbrev pub no_step : PackedStep
no_step = record { op = X; a = 0; b = 0 }

abbrev pub kept_at : List PackedStep → ℕ → PackedStep
kept_at kept at = get_or kept at no_step

pub kept_at-is : (kept : List PackedStep) (at : ℕ) → at < length kept → kept_at kept at ≡ get_or kept at (kept_at kept at)
kept_at-is kept at within = get_or_default kept at no_step (kept_at kept at) within

module _ (constants : List ℤ) (kept : List PackedStep) where
  many : length (map (unpacked constants) kept) ≡ length kept
  many = length-map kept (unpacked constants)

  -- a step that is read from where it is kept
  pub step_at-unpacked : (at : ℕ) (read : PackedStep) → at < length kept → read ≡ get_or kept at read → unpacked constants read ≡ step_at (map (unpacked constants) kept) at
  step_at-unpacked at read within is = ap (unpacked constants) is ∙ sym (get_or-map (unpacked constants) kept at read _ within)

  pub read-stands : AreSteps (map (unpacked constants) kept) → (at : ℕ) (read : PackedStep) → at < length kept → read ≡ get_or kept at read → IsStepAt at (unpacked constants read)
  read-stands each at read within is =
      subst (IsStepAt at) (sym (step_at-unpacked at read within is)) (step_at-stands (map (unpacked constants) kept) at each (omega (arith, within, many)))

  pub read-stored : AreSteps (map (unpacked constants) kept) → (at : ℕ) (read : PackedStep) → at < length kept → read ≡ get_or kept at read → is_constant read.op ≡ true → read.a < length constants
  read-stored each at read within is = stored constants read (read-stands each at read within is).raw

  pub list-more : (more : List ℤ) → AreSteps (map (unpacked constants) kept) → map (unpacked (constants ++ more)) kept ≡ map (unpacked constants) kept
  list-more more each =
      same_lists (map (unpacked (constants ++ more)) kept) (map (unpacked constants) kept) (length-map kept (unpacked (constants ++ more)) ∙ sym many)
      (λ k d below.
      let within : k < length kept = omega (arith, below, length-map kept (unpacked (constants ++ more))) in
      let other = kept_at kept k in
      get_or-map (unpacked (constants ++ more)) kept k no_step d within ∙ unpacked-more constants more other (read-stands each k other within (kept_at-is kept k within)).raw ∙ sym (get_or-map (unpacked constants) kept k no_step d within))

-- a constant makes no choice
pub constant-both : (steps : List Step) (choices : List Choice) → AreChoices steps choices → (place : ℕ) → place < length steps → is_constant (step_at steps place).op ≡ true → choice_at choices place ≡ Both
constant-both steps choices choose place within is =
    let op = constant_is (step_at steps place).op is in
    let not_min : (step_at steps place).op ≢ Min = λ min. const_not_min (sym op ∙ min) in
    let not_max : (step_at steps place).op ≢ Max = λ max. const_not_max (sym op ∙ max) in
    choose place (step_at steps place) (slice_get-get_or steps place _ within) not_min not_max
  where
    const_not_min : Const ≡ Min → ⊥
    const_not_min same = (cc)

    const_not_max : Const ≡ Max → ⊥
    const_not_max same = (cc)

-- so what is chosen is the same whether its place or none is read
pub chosen-first : (choice : Choice) (kept : PackedStep) (f : ℕ → ℕ) (second own : ℕ) → (is_constant kept.op ≡ true → choice ≡ Both)
    → chosen choice (f kept.a) second own ≡ chosen choice (f (first_of kept)) second own
chosen-first choice kept f second own both = by_kind (is_constant kept.op) refl
  where
    by_kind : (b : Bool) → is_constant kept.op ≡ b → chosen choice (f kept.a) second own ≡ chosen choice (f (first_of kept)) second own
    by_kind true is = ap (λ c. chosen c (f kept.a) second own) (both is) ∙ sym (ap (λ c. chosen c (f (first_of kept)) second own) (both is))
    by_kind false is = ap (λ place. chosen choice (f place) second own) (sym (first-kept kept is))

-- one more step is kept, with its number behind those of the others
module _ (constants : List ℤ) (step : Step) (place : ℕ) (stands : IsStepAt place step) (one : PackedStep) (op : one.op ≡ step.op)
    (first : one.a ≡ cond (is_constant step.op) (length constants) step.a) (second : one.b ≡ step.b) where
  abbrev longer : List ℤ
  longer = constants ++ cond (is_constant step.op) (step.value ∷ []) []

  abbrev built : Op → ℕ → ℕ → ℤ → Step
  built o x y v = record { op = o; a = x; b = y; value = v }

  -- the fields of the step that is kept
  first-back : (b : Bool) → is_constant step.op ≡ b → cond b 0 (cond b (length constants) step.a) ≡ step.a
  first-back true is = sym (stands.fits.no_first (constant-arity step.op is))
  first-back false is = refl

  value-back : (b : Bool) → is_constant step.op ≡ b → cond b (number_in (constants ++ cond b (step.value ∷ []) []) (cond b (length constants) step.a)) (pos 0) ≡ step.value
  value-back true is = get_or_at constants step.value [] (pos (2 ^ 62)) (length constants) refl
  value-back false is = sym (stands.fits.no_value (is_not_constant step.op is))

  pub pushed-back : unpacked longer one ≡ step
  pushed-back =
      let kind : is_constant one.op ≡ is_constant step.op = ap is_constant op in
      let a : first_of one ≡ step.a = ap (λ b. cond b 0 one.a) kind ∙ ap (cond (is_constant step.op) 0) first ∙ first-back (is_constant step.op) refl in
      let value : (unpacked longer one).value ≡ step.value =
      ap (λ b. cond b (number_in longer one.a) (pos 0)) kind ∙ ap (λ x. cond (is_constant step.op) (number_in longer x) (pos 0)) first ∙ value-back (is_constant step.op) refl in
      ap (λ o. built o (first_of one) one.b (unpacked longer one).value) op ∙ ap (λ x. built step.op x one.b (unpacked longer one).value) a
      ∙ ap (λ y. built step.op step.a y (unpacked longer one).value) second ∙ ap (built step.op step.a step.b) value

pub kept-pushed : (constants : List ℤ) (kept : List PackedStep) (step : Step) → AreSteps (map (unpacked constants) kept) → IsStepAt (length kept) step
    → (one : PackedStep) (table : List ℤ) (all : List PackedStep) → one.op ≡ step.op → one.a ≡ cond (is_constant step.op) (length constants) step.a → one.b ≡ step.b
    → table ≡ constants ++ cond (is_constant step.op) (step.value ∷ []) [] → all ≡ kept ++ one ∷ [] → map (unpacked table) all ≡ map (unpacked constants) kept ++ step ∷ []
kept-pushed constants kept step each stands one table all op first second table_is all_is =
    let more = constants ++ cond (is_constant step.op) (step.value ∷ []) [] in
    ap (λ t. map (unpacked t) all) table_is ∙ ap (map (unpacked more)) all_is ∙ map_push (unpacked more) kept one
    ∙ ap (λ l. l ++ unpacked more one ∷ []) (list-more constants kept (cond (is_constant step.op) (step.value ∷ []) []) each)
    ∙ ap (λ s. map (unpacked constants) kept ++ s ∷ []) (pushed-back constants step (length kept) stands one op first second)

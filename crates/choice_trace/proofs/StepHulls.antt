-- The hulls of a list are those of all results, and no others are.
use Rattle.std.proofs.Common.{◌≡◌, ℕ, zero, suc, ◌<◌, ◌≤◌, ◌⊎◌, inl, inr, ℤ, List, length, get_or, Some, slice_get, refl, sym, subst, ◌∙◌, arith}
use Rattle.std.proofs.lemmas.Bool.{cases_lt}
use Rattle.std.proofs.lemmas.List.{ext_get_or}
use Rattle.std.proofs.lemmas.Option.{slice_get-get_or, slice_get_within}
use Rattle.fixed_ops.specs.Arity.{arity_of}
use Rattle.fixed_ops.specs.Points.{Point}
use Rattle.fixed_ops.specs.declared.operation.Op.{Op}
use Rattle.fixed_ops.specs.declared.operation.Op.TheVariants.{X, Y, Z, Const}
use Rattle.interval_ops.specs.Spans.{Interval, IsSpan, all_numbers}
use Rattle.interval_ops.specs.declared.region.Region.{Region}
use Rattle.live_clauses.specs.Steps.{AreSteps, IsStepAt}
use Rattle.live_clauses.specs.declared.step.Step.{Step}
use Rattle.choice_trace.specs.Hulls.{IsIn, hull_at, hulls, step_hull}
use Rattle.choice_trace.specs.Laws.{AreHulls, AreRanges, HullsHold, IsStepHull, OnlyHullsHold}
use Rattle.interval_ops.proofs.HullLaws.{holds_lo, hull_of_is_hull, hull_once}
use Rattle.choice_trace.proofs.HullLists.{hull_at-step, length-hulls}
use Rattle.choice_trace.proofs.Traces.{held}

-- an operation has an operand
abbrev HasOperand : Op → Type 0
HasOperand op = 0 < arity_of op

-- the places of both operands of a step that has one lie before it, where an operand that it lacks is at 0
both_before : (place : ℕ) (step : Step) → IsStepAt place step → HasOperand step.op → (step.a < place) × (step.b < place)
both_before place step stands some =
    let first = stands.fits.first some in
    (first, by (cases_lt 1 (arity_of step.op)))
  where
    by : (1 < arity_of step.op) ⊎ (arity_of step.op ≤ 1) → step.b < place
    by (inl two) = stands.fits.second two
    by (inr one) = let none = stands.fits.no_second one in omega (arith, none, stands.fits.first some)

-- each hull of a list is a span
spans : (region : Region) (steps : List Step) → AreRanges region → AreSteps steps → (place : ℕ) → place < length steps → IsSpan (hull_at region steps place)
spans region steps ranges stand place h =
    let p : Point = record { x = region.x.lo; y = region.y.lo; z = region.z.lo } in
    let inside : IsIn region p = record { x = holds_lo region.x ranges.x; y = holds_lo region.y ranges.y; z = holds_lo region.z ranges.z } in
    let default : Step = record { op = X; a = 0; b = 0; value = region.x.lo } in
    (held region p steps ranges inside stand (suc place) place (omega arith) (get_or steps place default) (slice_get-get_or steps place default h)).0

-- the hull of an operation is that of all results
is_step_hull : (op : Op) (region : Region) (value : ℤ) (a b : Interval) → (HasOperand op → IsSpan a × IsSpan b)
    → IsStepHull op region value a b (step_hull op region value a b)
is_step_hull X region value a b are = refl
is_step_hull Y region value a b are = refl
is_step_hull Z region value a b are = refl
is_step_hull Const region value a b are = refl
is_step_hull op region value a b are = let spans = are (omega arith) in hull_of_is_hull op a b spans.0 spans.1

-- and there is one such hull
one_step_hull : (op : Op) (region : Region) (value : ℤ) (a b h k : Interval) → IsStepHull op region value a b h → IsStepHull op region value a b k → h ≡ k
one_step_hull X region value a b h k i j = i ∙ sym j
one_step_hull Y region value a b h k i j = i ∙ sym j
one_step_hull Z region value a b h k i j = i ∙ sym j
one_step_hull Const region value a b h k i j = i ∙ sym j
one_step_hull op region value a b h k i j = hull_once op a b h k i j

-- equal operands have the same hulls
over_same : (op : Op) (region : Region) (value : ℤ) (a b c d h : Interval) → (a ≡ c) × (b ≡ d) → IsStepHull op region value a b h → IsStepHull op region value c d h
over_same op region value a b c d h same i =
    subst (λ (s : Interval). IsStepHull op region value c s h) same.1 (subst (λ (s : Interval). IsStepHull op region value s b h) same.0 i)

-- without an operand the hull of an operation needs none
no_operand : (op : Op) (region : Region) (value : ℤ) (a b c d h : Interval) → (HasOperand op → (a ≡ c) × (b ≡ d))
    → IsStepHull op region value a b h → IsStepHull op region value c d h
no_operand X region value a b c d h same i = i
no_operand Y region value a b c d h same i = i
no_operand Z region value a b c d h same i = i
no_operand Const region value a b c d h same i = i
no_operand op region value a b c d h same i = over_same op region value a b c d h (same (omega arith)) i

pub hulls_hold : HullsHold
hulls_hold region steps ranges stand = record {
  as_many = length-hulls region steps;
  each = λ place step is.
      let within = slice_get_within steps place step is in
      subst (λ (s : Interval). IsStepHull step.op region step.value (hull_at region steps step.a) (hull_at region steps step.b) s) (sym (hull_at-step region steps place step stand is))
      (is_step_hull step.op region step.value (hull_at region steps step.a) (hull_at region steps step.b) (λ some.
      let before = both_before place step (stand place step is) some in
      (spans region steps ranges stand step.a (omega (arith, before.0, within)), spans region steps ranges stand step.b (omega (arith, before.1, within)))));
}

-- hulls that are those of all results are the list's, place by place
same_hull : (region : Region) (steps : List Step) (all : List Interval) → AreRanges region → AreSteps steps → AreHulls region steps all
    → (n place : ℕ) → place < n → (step : Step) → slice_get steps place ≡ Some step → get_or all place all_numbers ≡ hull_at region steps place
same_hull region steps all ranges stand are zero place h step is = absurd (omega (arith, h))
same_hull region steps all ranges stand are (suc n) place h step is =
    let within = slice_get_within steps place step is in
    let earlier : (k : ℕ) → k < place → get_or all k all_numbers ≡ hull_at region steps k =
    λ k lt. same_hull region steps all ranges stand are n k (omega (arith, lt, h)) (get_or steps k step) (slice_get-get_or steps k step (omega (arith, lt, within))) in
    one_step_hull step.op region step.value (hull_at region steps step.a) (hull_at region steps step.b) (get_or all place all_numbers) (hull_at region steps place)
    (no_operand step.op region step.value (get_or all step.a all_numbers) (get_or all step.b all_numbers) (hull_at region steps step.a) (hull_at region steps step.b) (get_or all place all_numbers)
    (λ some. let before = both_before place step (stand place step is) some in (earlier step.a before.0, earlier step.b before.1)) (are.each place step is))
    ((hulls_hold region steps ranges stand).each place step is)

pub only_hulls : OnlyHullsHold
only_hulls region steps all ranges stand are =
    ext_get_or all_numbers all (hulls region steps) (omega (arith, are.as_many, length-hulls region steps))
    (λ place h.
    let default : Step = record { op = X; a = 0; b = 0; value = region.x.lo } in
    same_hull region steps all ranges stand are (suc place) place (omega arith) (get_or steps place default) (slice_get-get_or steps place default (omega (arith, h, are.as_many))))

-- The hulls of a list: each is its step's, made of the hulls of the list itself.
use Rattle.std.proofs.Common.{◌≡◌, ℕ, zero, suc, ◌+◌, ◌<◌, ℤ, List, [], ◌∷◌, ◌++◌, length, get_or, fold, Some, slice_get, refl, ap, sym, subst, ◌∙◌, arith}
use Rattle.std.proofs.lemmas.List.{length-append, get_or_append_left}
use Rattle.std.proofs.Math.Seq.{get_or-append_seam}
use Rattle.fixed_ops.specs.Arity.{arity_of}
use Rattle.fixed_ops.specs.declared.operation.Op.{Op}
use Rattle.fixed_ops.specs.declared.operation.Op.TheVariants.{X, Y, Z, Const, Add, Sub, Mul, Div, Min, Max}
use Rattle.interval_ops.specs.Choices.{choice_of}
use Rattle.interval_ops.specs.Spans.{Interval, all_numbers}
use Rattle.interval_ops.specs.declared.region.Region.{Region}
use Rattle.live_clauses.specs.Steps.{IsStepAt, AreSteps}
use Rattle.live_clauses.specs.declared.step.Step.{Step}
use Rattle.choice_trace.specs.Hulls.{hull_after, hull_at, hulls, step_hull}

-- equal operands give one hull
both : (op : Op) (region : Region) (value : ℤ) (a b c d : Interval) → a ≡ c → b ≡ d → step_hull op region value a b ≡ step_hull op region value c d
both op region value a b c d p q =
    ap (λ (s : Interval). step_hull op region value s b) p ∙ ap (λ (s : Interval). step_hull op region value c s) q

-- an operation reads only the operands that it has
pub step_hull-same : (op : Op) (region : Region) (value : ℤ) (a b c d : Interval) → (0 < arity_of op → a ≡ c) → (1 < arity_of op → b ≡ d)
    → step_hull op region value a b ≡ step_hull op region value c d
step_hull-same X region value a b c d first second = refl
step_hull-same Y region value a b c d first second = refl
step_hull-same Z region value a b c d first second = refl
step_hull-same Const region value a b c d first second = refl
step_hull-same Add region value a b c d first second = both Add region value a b c d (first (omega arith)) (second (omega arith))
step_hull-same Sub region value a b c d first second = both Sub region value a b c d (first (omega arith)) (second (omega arith))
step_hull-same Mul region value a b c d first second = both Mul region value a b c d (first (omega arith)) (second (omega arith))
step_hull-same Div region value a b c d first second = both Div region value a b c d (first (omega arith)) (second (omega arith))
step_hull-same Min region value a b c d first second = both Min region value a b c d (first (omega arith)) (second (omega arith))
step_hull-same Max region value a b c d first second = both Max region value a b c d (first (omega arith)) (second (omega arith))
step_hull-same op region value a b c d first second = ap (λ (s : Interval). step_hull op region value s d) (first (omega arith))

-- and so does its choice
pub choice_of-same : (op : Op) (a b c d : Interval) → (0 < arity_of op → a ≡ c) → (1 < arity_of op → b ≡ d) → choice_of op a b ≡ choice_of op c d
choice_of-same Min a b c d first second =
    ap (λ (s : Interval). choice_of Min s b) (first (omega arith)) ∙ ap (λ (s : Interval). choice_of Min c s) (second (omega arith))
choice_of-same Max a b c d first second =
    ap (λ (s : Interval). choice_of Max s b) (first (omega arith)) ∙ ap (λ (s : Interval). choice_of Max c s) (second (omega arith))
choice_of-same op a b c d first second = refl

-- a step has one hull over lists that agree before its place
pub hull_after-same : (region : Region) (xs ys : List Interval) (place : ℕ) (step : Step) → IsStepAt place step
    → ((k : ℕ) → k < place → get_or xs k all_numbers ≡ get_or ys k all_numbers) → hull_after region xs step ≡ hull_after region ys step
hull_after-same region xs ys place step stands agree =
    step_hull-same step.op region step.value (get_or xs step.a all_numbers) (get_or xs step.b all_numbers) (get_or ys step.a all_numbers) (get_or ys step.b all_numbers)
    (λ h. agree step.a (stands.fits.first h)) (λ h. agree step.b (stands.fits.second h))

-- the hulls after those of earlier steps
abbrev hulls_from : Region → List Interval → List Step → List Interval
hulls_from region earlier steps = fold (λ before step. before ++ hull_after region before step ∷ []) earlier steps

length-hulls_from : (region : Region) (earlier : List Interval) (steps : List Step) → length (hulls_from region earlier steps) ≡ length earlier + length steps
length-hulls_from region earlier [] = omega arith
length-hulls_from region earlier (s ∷ steps) =
    omega (arith, length-hulls_from region (earlier ++ hull_after region earlier s ∷ []) steps, length-append earlier (hull_after region earlier s ∷ []))

-- earlier hulls stay
get_or-hulls_from : (region : Region) (earlier : List Interval) (steps : List Step) (k : ℕ) → k < length earlier
    → get_or (hulls_from region earlier steps) k all_numbers ≡ get_or earlier k all_numbers
get_or-hulls_from region earlier [] k h = refl
get_or-hulls_from region earlier (s ∷ steps) k h =
    let v = hull_after region earlier s in
    get_or-hulls_from region (earlier ++ v ∷ []) steps k (omega (arith, length-append earlier (v ∷ []))) ∙ get_or_append_left earlier (v ∷ []) all_numbers k h

-- each later step's hull is what it makes of the whole list
hull-hulls_from : (region : Region) (earlier : List Interval) (steps : List Step) (place : ℕ) (step : Step)
    → ((k : ℕ) (s : Step) → slice_get steps k ≡ Some s → IsStepAt (length earlier + k) s) → slice_get steps place ≡ Some step
    → get_or (hulls_from region earlier steps) (length earlier + place) all_numbers ≡ hull_after region (hulls_from region earlier steps) step
hull-hulls_from region earlier [] place step stand at = (cc)
hull-hulls_from region earlier (s ∷ steps) zero step stand at =
    let v = hull_after region earlier s in
    let all = hulls_from region (earlier ++ v ∷ []) steps in
    let longer = length-append earlier (v ∷ []) in
    let here : get_or all (length earlier) all_numbers ≡ v =
    get_or-hulls_from region (earlier ++ v ∷ []) steps (length earlier) (omega arith) ∙ get_or-append_seam earlier v [] all_numbers in
    let stands : IsStepAt (length earlier) s = subst (λ n. IsStepAt n s) (omega arith) (stand 0 s refl) in
    let whole : v ≡ hull_after region all s =
    hull_after-same region earlier all (length earlier) s stands (λ k h. sym (get_or-hulls_from region earlier (s ∷ steps) k h)) in
    let is : s ≡ step = (cc) in
    let there : length earlier + 0 ≡ length earlier = omega arith in
    rw there (here ∙ whole ∙ ap (hull_after region all) is)
hull-hulls_from region earlier (s ∷ steps) (suc place) step stand at =
    let v = hull_after region earlier s in
    let longer = length-append earlier (v ∷ []) in
    let there : length earlier + suc place ≡ length (earlier ++ v ∷ []) + place = omega arith in
    rw there (hull-hulls_from region (earlier ++ v ∷ []) steps place step
    (λ k d h. subst (λ n. IsStepAt n d) (omega arith) (stand (suc k) d h)) at)

-- there are as many hulls as steps
pub length-hulls : (region : Region) (steps : List Step) → length (hulls region steps) ≡ length steps
length-hulls region steps = omega (arith, length-hulls_from region [] steps)

-- the hull of the step at a place is what it makes of the hulls of its operands
pub hull_at-step : (region : Region) (steps : List Step) (place : ℕ) (step : Step) → AreSteps steps → slice_get steps place ≡ Some step
    → hull_at region steps place ≡ hull_after region (hulls region steps) step
hull_at-step region steps place step stand at =
    let hull = hull-hulls_from region [] steps place step (λ k s h. subst (λ n. IsStepAt n s) (omega arith) (stand k s h)) at in
    let start : 0 + place ≡ place = omega arith in
    rw start at hull

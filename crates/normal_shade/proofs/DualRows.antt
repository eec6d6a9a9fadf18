-- One more row of dual numbers is written, those of a step at several points.
use Rattle.std.proofs.Common.{◌≡◌, ◌∙◌, ◌⊎◌, inl, inr, ℕ, zero, suc, ◌+◌, ◌<◌, ℤ, Bool, true, false, cond, Some, List, [], ◌++◌, ap, arith, length, refl, set, slice_get, sym}
use Rattle.std.specs.List.{range_with_len, sum_by}
use Rattle.std.proofs.lemmas.Bool.{cases_eq}
use Rattle.std.proofs.lemmas.List.{get_or-set_other, get_or-set_same, get_or_append_left, set-append_right}
use Rattle.fixed_ops.specs.Points.{Point}
use Rattle.fixed_ops.specs.Slopes.{Sloped, flat}
use Rattle.live_clauses.specs.Steps.{IsTape}
use Rattle.live_clauses.specs.declared.step.Step.{Step}
use Rattle.normal_shade.specs.Branches.{is_reached}
use Rattle.normal_shade.specs.DualWork.{derivative_cost, derivatives_below}
use Rattle.normal_shade.specs.Duals.{AreDuals, HasValues, dual_at, dual_in, dual_of}
use Rattle.normal_shade.proofs.Reached.{cost-stays, cost-written, dual-written, duals-next, sum-more}

-- what stands before a place and after it, of which the first is written
written : (rows earlier later : List (List Sloped)) (at : ℕ) (row : List Sloped) → rows ≡ earlier ++ later → length earlier ≡ at
    → set rows at row ≡ earlier ++ set later 0 row
written rows earlier later at row split front =
    ap (λ l. set l at row) split ∙ set-append_right earlier later at at row front (omega arith)
    ∙ ap (λ k. earlier ++ set later k row) (omega arith)

-- one more dual number of a row
pub dual-set : (row : List Sloped) (lane : ℕ) (new : Sloped) (f : ℕ → Sloped) → lane < length row → new ≡ f lane → ((k : ℕ) → k < lane → dual_in k row ≡ f k)
    → (k : ℕ) → k < lane + 1 → dual_in k (set row lane new) ≡ f k
dual-set row lane new f room is before k below = by (cases_eq k lane)
  where
    by : (k ≡ lane) ⊎ (k ≡ lane → ⊥) → dual_in k (set row lane new) ≡ f k
    by (inl same) = ap (λ m. dual_in m (set row lane new)) same ∙ get_or-set_same row lane new flat room ∙ is ∙ ap f (sym same)
    by (inr other) = get_or-set_other row lane k new flat other ∙ before k (omega (arith, below, other))

-- no numbers of the lanes
pub sums-none : (f : ℕ → ℕ) (n : ℕ) → ((k : ℕ) → k < n → f k ≡ 0) → 0 ≡ sum_by f (range_with_len 0 n)
sums-none f zero none = refl
sums-none f (suc n) none =
    let before = sums-none f n (λ k below. none k (omega (arith, below))) in
    let here : f n ≡ 0 = none n (omega arith) in
    let more = sum-more f 0 n n (omega arith) in
    omega (arith, before, here, more)

-- the sums of two numbers of each lane
pub sums-add : (f g h : ℕ → ℕ) (n : ℕ) → ((k : ℕ) → k < n → f k + g k ≡ h k)
    → sum_by f (range_with_len 0 n) + sum_by g (range_with_len 0 n) ≡ sum_by h (range_with_len 0 n)
sums-add f g h zero same = refl
sums-add f g h (suc n) same =
    let before = sums-add f g h n (λ k below. same k (omega (arith, below))) in
    let here : f n + g n ≡ h n = same n (omega arith) in
    let of_f = sum-more f 0 n n (omega arith) in
    let of_g = sum-more g 0 n n (omega arith) in
    let of_h = sum-more h 0 n n (omega arith) in
    omega (arith, before, here, of_f, of_g, of_h)

pub sums-same : (f h : ℕ → ℕ) (n : ℕ) → ((k : ℕ) → k < n → f k ≡ h k) → sum_by f (range_with_len 0 n) ≡ sum_by h (range_with_len 0 n)
sums-same f h zero same = refl
sums-same f h (suc n) same =
    let before = sums-same f h n (λ k below. same k (omega (arith, below))) in
    let here : f n ≡ h n = same n (omega arith) in
    let of_f = sum-more f 0 n n (omega arith) in
    let of_h = sum-more h 0 n n (omega arith) in
    omega (arith, before, here, of_f, of_h)

module _ (p : Point) (steps : List Step) (tape : IsTape steps) (place : ℕ) (step : Step) (value : ℕ → ℤ) (is : slice_get steps place ≡ Some step) (values : HasValues p steps value) (r left right : ℤ) (here : r ≡ value place) (first : left ≡ value step.a) (second : right ≡ value step.b) where
  -- a lane of the row has the dual number of its step where that is reached
  pub lane-written : (lane : ℕ) (rows earlier later : List (List Sloped)) (row : List Sloped) → rows ≡ earlier ++ later → length earlier ≡ place → place < length rows
      → dual_in lane row ≡ dual_of step.op r left right (dual_at lane earlier step.a) (dual_at lane earlier step.b)
      → AreDuals p steps (dual_at lane rows) place → AreDuals p steps (dual_at lane (earlier ++ set later 0 row)) (place + 1)
  lane-written lane rows earlier later row split front room made read =
      let new = earlier ++ set later 0 row in
      let before : (k : ℕ) → k < place → dual_at lane earlier k ≡ dual_at lane rows k =
      λ k below. sym (ap (λ l. dual_at lane l k) split ∙ ap (dual_in lane) (get_or_append_left earlier later [] k (omega (arith, below, front)))) in
      let kept : (k : ℕ) → k < place → dual_at lane new k ≡ dual_at lane rows k =
      λ k below. ap (dual_in lane) (get_or_append_left earlier (set later 0 row) [] k (omega (arith, below, front))) ∙ before k below in
      let there : dual_at lane new place ≡ dual_in lane row =
      ap (λ l. dual_at lane l place) (sym (written rows earlier later place row split front)) ∙ ap (dual_in lane) (get_or-set_same rows place row [] room) in
      duals-next p steps tape place (dual_at lane rows) (dual_at lane new) read kept
      (λ reached. there ∙ made
      ∙ dual-written p steps tape place step value is values reached r left right here first second (dual_at lane earlier) _ _ refl refl
      (λ k below reaches. before k below ∙ read k below reaches))

  -- and what its derivatives take is counted there alone
  pub lane-cost : (bit : Bool) → bit ≡ is_reached p steps place
      → derivatives_below p steps place + cond bit (derivative_cost step.op left right r) 0 ≡ derivatives_below p steps (place + 1)
  lane-cost true reached = cost-written p steps tape place step value is values (sym reached) r left right here first second (derivatives_below p steps place) (derivative_cost step.op left right r) refl refl
  lane-cost false unreached =
      let stays = cost-stays p steps tape place (derivatives_below p steps place) (sym unreached) refl in
      omega (arith, stays)

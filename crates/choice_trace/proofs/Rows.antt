-- One more row of numbers is written, a number for each point.
use Rattle.std.proofs.Common.{◌≡◌, ◌∙◌, ℕ, ◌+◌, ◌<◌, ℤ, Some, List, [], ◌++◌, ap, arith, drop, length, set, slice_get, subst, sym}
use Rattle.std.proofs.lemmas.List.{drop-set-lt, get_or_append_left, set-append_right}
use Rattle.live_clauses.specs.Steps.{AreSteps, value_at, values}
use Rattle.live_clauses.specs.declared.step.Step.{Step}
use Rattle.choice_trace.specs.Lanes.{in_lane, lane_value, number_at, point_in}
use Rattle.choice_trace.specs.declared.inputs.Inputs.{Inputs}
use Rattle.choice_trace.proofs.Elements.{AreRead, read_more}
use Rattle.fixed_ops.proofs.PointLaws.{step_value-same}
use Rattle.live_clauses.proofs.Theorems.{values_are_of_operands}

-- so many rows have the values of their steps at the point in a lane
abbrev pub AreRows : ℕ → Inputs (List ℤ) → List (List ℤ) → List Step → ℕ → Type 0
AreRows lane inputs rows steps count =
    AreRead (λ row v. in_lane lane row ≡ v) [] rows (values (point_in lane inputs) steps) count

-- what stands before a place and after it, of which the first is written
written : (rows earlier later : List (List ℤ)) (at : ℕ) (row : List ℤ) → rows ≡ earlier ++ later → length earlier ≡ at
    → set rows at row ≡ earlier ++ set later 0 row
written rows earlier later at row split len =
    ap (λ l. set l at row) split ∙ set-append_right earlier later at at row len (omega arith)
    ∙ ap (λ k. earlier ++ set later k row) (omega arith)

-- a step has its value from the rows before it
step_is : (lane : ℕ) (inputs : Inputs (List ℤ)) (rows earlier later : List (List ℤ)) (steps : List Step) (at : ℕ) (step : Step)
    → AreSteps steps → slice_get steps at ≡ Some step → rows ≡ earlier ++ later → length earlier ≡ at → AreRows lane inputs rows steps at
    → lane_value lane inputs earlier step ≡ value_at (point_in lane inputs) steps at
step_is lane inputs rows earlier later steps at step stand is split len read =
    let p = point_in lane inputs in
    let operand : (k : ℕ) → k < at → number_at lane earlier k ≡ value_at p steps k =
    λ k h. ap (in_lane lane) (sym (get_or_append_left earlier later [] k (omega (arith, h, len)))) ∙ ap (λ (l : List (List ℤ)). number_at lane l k) (sym split) ∙ read k h in
    let stands = stand at step is in
    step_value-same step.op p step.value _ _ _ _ (λ h. operand step.a (stands.fits.first h)) (λ h. operand step.b (stands.fits.second h))
    ∙ sym (values_are_of_operands p steps stand at step is)

-- one more row
pub rows_more : (lane : ℕ) (inputs : Inputs (List ℤ)) (rows earlier later : List (List ℤ)) (steps : List Step) (at : ℕ) (step : Step) (row : List ℤ)
    → AreSteps steps → slice_get steps at ≡ Some step → at < length rows → rows ≡ earlier ++ later → length earlier ≡ at → AreRows lane inputs rows steps at
    → in_lane lane row ≡ lane_value lane inputs earlier step
    → AreRows lane inputs (earlier ++ set later 0 row) steps (at + 1)
rows_more lane inputs rows earlier later steps at step row stand is room split len read made =
    subst (λ l. AreRows lane inputs l steps (at + 1)) (written rows earlier later at row split len)
    (read_more (λ row v. in_lane lane row ≡ v) [] rows (values (point_in lane inputs) steps) at row room read
    (made ∙ step_is lane inputs rows earlier later steps at step stand is split len read))

-- the rows behind it stay
pub rows_behind : (rows earlier later : List (List ℤ)) (at len : ℕ) (row : List ℤ) → at < len → rows ≡ earlier ++ later → length earlier ≡ at
    → drop len (earlier ++ set later 0 row) ≡ drop len rows
rows_behind rows earlier later at len row below split before =
    ap (drop len) (sym (written rows earlier later at row split before)) ∙ drop-set-lt len rows at row below

-- The value of each clause of a list is what it makes of the values of its operands in that list.
use Rattle.std.proofs.Common.{◌≡◌, ℕ, zero, suc, ◌+◌, ℤ, pos, List, [], ◌∷◌, get_or, Some, slice_get, refl, ap, sym, subst, ◌∙◌, arith}
use Rattle.fixed_ops.specs.Points.{Point, step_value}
use Rattle.solid_model.specs.declared.clause.Clause.{Clause}
use Rattle.solid_model.specs.Clauses.{FitsAt}
use Rattle.solid_model.specs.Values.{values}
use Rattle.solid_model.proofs.ValueLemmas.{value-values}
use Rattle.solid_lang.specs.declared.step.Step.{Step}
use Rattle.solid_lang.specs.Compiled.{all_steps, clause_at, clauses_at, compiled}
use Rattle.solid_lang.specs.Solids.{SolidTree}
use Rattle.solid_lang.specs.Placing.{Each, Fits}
use Rattle.solid_lang.proofs.FitLemmas.{all_fit}

-- what a step gives at a point from the values of all clauses
abbrev pub step_of : Point → List ℤ → Step → ℤ
step_of p all step = step_value step.op p step.value (get_or all step.a (pos 0)) (get_or all step.b (pos 0))

abbrev pub IsValue : Point → List ℤ → ℕ → Step → Type 0
IsValue p all place step = get_or all place (pos 0) ≡ step_of p all step

-- a clause at a place is that of a step
pub record IsOfStep (n : ℕ) (steps : List Step) (k : ℕ) (clause : Clause) : Type 0 where
  pub step : Step
  pub there : slice_get steps k ≡ Some step
  pub is : clause ≡ clause_at (n + k) step

pub clause_is_of_step : (n : ℕ) (steps : List Step) (k : ℕ) (clause : Clause) → slice_get (clauses_at n steps) k ≡ Some clause → IsOfStep n steps k clause
clause_is_of_step n [] k clause e = (cc)
clause_is_of_step n (x ∷ xs) zero clause e =
    let same : n ≡ n + 0 = omega arith in
    record { step = x; there = refl; is = some-is (sym e) ∙ ap (λ j. clause_at j x) same }
  where
    some-is : Some clause ≡ Some (clause_at n x) → clause ≡ clause_at n x
    some-is f = (cc)
clause_is_of_step n (x ∷ xs) (suc k) clause e =
    let rest = clause_is_of_step (n + 1) xs k clause e in
    let same : n + 1 + k ≡ n + suc k = omega arith in
    record { step = rest.step; there = rest.there; is = rest.is ∙ ap (λ j. clause_at j rest.step) same }

-- and that of a step stands at the step's place
clause_of_step : (n : ℕ) (steps : List Step) (k : ℕ) (step : Step) → slice_get steps k ≡ Some step → slice_get (clauses_at n steps) k ≡ Some (clause_at (n + k) step)
clause_of_step n [] k step e = (cc)
clause_of_step n (x ∷ xs) zero step e =
    let same : n ≡ n + 0 = omega arith in
    let is : x ≡ step = (cc) in
    ap (λ j. Some (clause_at j x)) same ∙ ap (λ y. Some (clause_at (n + 0) y)) is
clause_of_step n (x ∷ xs) (suc k) step e =
    let same : n + 1 + k ≡ n + suc k = omega arith in
    clause_of_step (n + 1) xs k step e ∙ ap (λ j. Some (clause_at j step)) same

-- the values of the clauses of a solid
pub compiled_values : (p : Point) (s : SolidTree) → Each (IsValue p (values p (compiled s))) 0 (all_steps s)
compiled_values p s k step e =
    subst (λ j. IsValue p (values p (compiled s)) j step) (omega arith)
    (value-values p (compiled s) fits k (clause_at (0 + k) step) (clause_of_step 0 (all_steps s) k step e))
  where
    fits : (place : ℕ) (c : Clause) → slice_get (compiled s) place ≡ Some c → FitsAt place c.op c.a c.b c.value
    fits place c at =
        let of = clause_is_of_step 0 (all_steps s) place c at in
        subst (λ (d : Clause). FitsAt place d.op d.a d.b d.value) (sym of.is)
        (subst (λ j. Fits j of.step) (omega arith) (all_fit s place of.step of.there))

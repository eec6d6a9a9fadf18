-- What holds of each step of a list, at the place where it stands.
use Rattle.std.proofs.Common.{◌≡◌, ℕ, zero, suc, ◌+◌, List, [], ◌∷◌, ◌++◌, length, Some, slice_get, subst, arith}
use Rattle.solid_lang.specs.declared.step.Step.{Step}
use Rattle.solid_lang.specs.Placing.{Each}
use Rattle.std.proofs.lemmas.Option.{same_Some}

-- what holds of each step, written out
abbrev pub EachOf : (ℕ → Step → Type 0) → ℕ → ℕ → List Step → Type 0
EachOf P n from [] = Unit {0}
EachOf P n from (step ∷ steps) = P (n + from) step × EachOf P n (from + 1) steps

each_from : (P : ℕ → Step → Type 0) (n from : ℕ) (steps : List Step) → EachOf P n from steps
    → (k : ℕ) (step : Step) → slice_get steps k ≡ Some step → P (n + (from + k)) step
each_from P n from [] all k step e = (cc)
each_from P n from (x ∷ xs) all zero step e =
    let place : n + from ≡ n + (from + 0) = omega arith in
    subst (λ j. P j step) place (subst (P (n + from)) (same_Some _ _ e) all.0)
each_from P n from (x ∷ xs) all (suc k) step e =
    let place : n + (from + 1 + k) ≡ n + (from + suc k) = omega arith in
    subst (λ j. P j step) place (each_from P n (from + 1) xs all.1 k step e)

pub each_is : (P : ℕ → Step → Type 0) (n : ℕ) (steps : List Step) → EachOf P n 0 steps → Each P n steps
each_is P n steps all k step e =
    let place : n + (0 + k) ≡ n + k = omega arith in
    subst (λ j. P j step) place (each_from P n 0 steps all k step e)

-- the steps behind the first
pub each_later : (P : ℕ → Step → Type 0) (n : ℕ) (x : Step) (xs : List Step) → Each P n (x ∷ xs) → Each P (n + 1) xs
each_later P n x xs all k step e =
    let place : n + suc k ≡ n + 1 + k = omega arith in
    subst (λ j. P j step) place (all (suc k) step e)

-- of two lists, one behind the other
pub each-append : (P : ℕ → Step → Type 0) (n m : ℕ) (xs ys : List Step) → n + length xs ≡ m → Each P n xs → Each P m ys → Each P n (xs ++ ys)
each-append P n m [] ys long front back k step e =
    let same : m + k ≡ n + k = omega (arith, long) in
    subst (λ j. P j step) same (back k step e)
each-append P n m (x ∷ xs) ys long front back zero step e = front zero step e
each-append P n m (x ∷ xs) ys long front back (suc k) step e =
    let place : n + 1 + k ≡ n + suc k = omega arith in
    let rest : n + 1 + length xs ≡ m = omega (arith, long) in
    subst (λ j. P j step) place (each-append P (n + 1) m xs ys rest (each_later P n x xs front) back k step e)

pub each-front : (P : ℕ → Step → Type 0) (n : ℕ) (xs ys : List Step) → Each P n (xs ++ ys) → Each P n xs
each-front P n [] ys all k step e = (cc)
each-front P n (x ∷ xs) ys all zero step e = all zero step e
each-front P n (x ∷ xs) ys all (suc k) step e =
    let place : n + 1 + k ≡ n + suc k = omega arith in
    subst (λ j. P j step) place (each-front P (n + 1) xs ys (each_later P n x (xs ++ ys) all) k step e)

pub each-back : (P : ℕ → Step → Type 0) (n m : ℕ) (xs ys : List Step) → n + length xs ≡ m → Each P n (xs ++ ys) → Each P m ys
each-back P n m [] ys long all k step e =
    let same : n + k ≡ m + k = omega (arith, long) in
    subst (λ j. P j step) same (all k step e)
each-back P n m (x ∷ xs) ys long all k step e =
    let rest : n + 1 + length xs ≡ m = omega (arith, long) in
    each-back P (n + 1) m xs ys rest (each_later P n x (xs ++ ys) all) k step e

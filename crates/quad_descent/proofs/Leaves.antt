-- Rows of leaves as numbers.
use Rattle.std.proofs.Common.{◌≡◌, ◌^◌, ℕ, zero, suc, ◌+◌, ◌*◌, ◌<◌, ◌≤◌, Bool, true, false, cond, List, [], ◌∷◌, ◌++◌, length, map, fold, set, refl, ap, ◌∙◌, arith}
use Rattle.std.specs.Prelude.{nat_lt}
use Rattle.std.specs.List.{range_with_len}
use Rattle.std.proofs.lemmas.Grind.{pow_more}
use Rattle.std.proofs.lemmas.List.FromFn.{map-range_with_len_more}
use Rattle.std.proofs.lemmas.List.Sums.{fold-append, fold_push}
use Rattle.quad_descent.specs.Nodes.{bits_of}

abbrev digits : ℕ → List Bool → ℕ
digits bits tests = fold (λ bits test. 2 * bits + cond test 1 0) bits tests

-- a power of 2 more
twice : (a p q : ℕ) → q ≡ p * 2 → (a + 1) * q ≡ (2 * a + 2) * p
twice a p q is = rw is (grind arith)

power-suc : (n : ℕ) → 2 ^ suc n ≡ 2 ^ n * 2
power-suc n = ap (λ k. 2 ^ k) (omega arith) ∙ pow_more 2 n

once-more : (a p : ℕ) → (a + 1) * p ≡ a * p + p
once-more a p = grind arith

-- a number of so many digits behind another
digits-below : (bits : ℕ) (tests : List Bool) → digits bits tests + 1 ≤ (bits + 1) * 2 ^ length tests
digits-below bits [] = omega arith
digits-below bits (true ∷ tests) =
    let more : (bits + 1) * 2 ^ length (true ∷ tests) ≡ (2 * bits + 2) * 2 ^ length tests = twice bits (2 ^ length tests) (2 ^ suc (length tests)) (power-suc (length tests)) in
    omega (arith, digits-below (2 * bits + 1) tests, more)
digits-below bits (false ∷ tests) =
    let more : (bits + 1) * 2 ^ length (false ∷ tests) ≡ (2 * bits + 2) * 2 ^ length tests = twice bits (2 ^ length tests) (2 ^ suc (length tests)) (power-suc (length tests)) in
    omega (arith, digits-below (2 * bits + 0) tests, more, once-more (2 * bits + 0 + 1) (2 ^ length tests), ap (λ n. n * 2 ^ length tests) (next bits))
  where
    next : (bits : ℕ) → 2 * bits + 0 + 1 + 1 ≡ 2 * bits + 2
    next bits = omega arith

-- digits behind a number
digits-from : (bits : ℕ) (tests : List Bool) → digits bits tests ≡ bits * 2 ^ length tests + digits 0 tests
digits-from bits [] = omega arith
digits-from bits (true ∷ tests) =
    let p = 2 ^ length tests in
    let more : bits * 2 ^ suc (length tests) + p ≡ (2 * bits + 1) * p = rw (power-suc (length tests)) (grind arith) in
    omega (arith, digits-from (2 * bits + 1) tests, digits-from 1 tests, more)
digits-from bits (false ∷ tests) =
    let p = 2 ^ length tests in
    let more : bits * 2 ^ suc (length tests) ≡ (2 * bits + 0) * p = rw (power-suc (length tests)) (grind arith) in
    omega (arith, digits-from (2 * bits + 0) tests, more)

pub bits-append : (xs ys : List Bool) → bits_of (xs ++ ys) ≡ bits_of xs * 2 ^ length ys + bits_of ys
bits-append xs ys = fold-append (λ bits test. 2 * bits + cond test 1 0) 0 xs ys ∙ digits-from (bits_of xs) ys

pub bits-below : (tests : List Bool) → bits_of tests < 2 ^ length tests
bits-below tests = let below = digits-below 0 tests in omega (arith, below)

-- one more digit
pub bits-more : (f : ℕ → Bool) (low n at : ℕ) → low + n ≡ at → bits_of (map f (range_with_len low (n + 1))) ≡ 2 * bits_of (map f (range_with_len low n)) + cond (f at) 1 0
bits-more f low n at is =
    ap bits_of (map-range_with_len_more f low n at is) ∙ fold_push (λ bits test. 2 * bits + cond test 1 0) 0 (map f (range_with_len low n)) (f at)

-- the rows of a leaf, of which so many are made
abbrev pub rows_upto : (ℕ → ℕ) → ℕ → List ℕ
rows_upto row n = map (λ r. cond (nat_lt r n) (row r) 0) (range_with_len 0 8)

-- one more is made
pub rows_set : (row : ℕ → ℕ) (n : ℕ) → n < 8 → set (rows_upto row n) n (row n) ≡ rows_upto row (n + 1)
rows_set row zero h = refl
rows_set row (suc zero) h = refl
rows_set row (suc (suc zero)) h = refl
rows_set row (suc (suc (suc zero))) h = refl
rows_set row (suc (suc (suc (suc zero)))) h = refl
rows_set row (suc (suc (suc (suc (suc zero))))) h = refl
rows_set row (suc (suc (suc (suc (suc (suc zero)))))) h = refl
rows_set row (suc (suc (suc (suc (suc (suc (suc zero))))))) h = refl
rows_set row (suc (suc (suc (suc (suc (suc (suc (suc n)))))))) h = absurd (omega (arith, h))

pub rows-more : (row : ℕ → ℕ) (old : List ℕ) (n made : ℕ) → n < 8 → old ≡ rows_upto row n → made ≡ row n → set old n made ≡ rows_upto row (n + 1)
rows-more row old n made few is same = ap (λ l. set l n made) is ∙ ap (λ m. set (rows_upto row n) n m) same ∙ rows_set row n few

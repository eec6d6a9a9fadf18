-- How tops are those of parts of a column.
use Rattle.std.proofs.Common.{◌≡◌, ℕ, zero, suc, ◌+◌, ◌-◌, ◌<◌, ◌≤◌, Bool, true, false, cond, map, refl, sym, ap, ◌∙◌, ◌⊎◌, inl, inr, arith}
use Rattle.std.specs.Prelude.{max, nat_le, ◌==◌, ◌&&◌}
use Rattle.std.specs.List.{range_with_len}
use Rattle.std.proofs.lemmas.Bool.{cases_lt, le-leb, lt-leb, ne_eqb}
use Rattle.height_map.specs.Columns.{lifted}
use Rattle.box_chains.specs.Sums.{maximum}
use Rattle.height_map.proofs.ChangeLaws.{lifted-none, lifted-some}

abbrev item : (ℕ → Bool) → ℕ → ℕ
item f k = cond (f k) (k + 1) 0

-- 1 plus the greatest of so many numbers from low on that pass, or 0
abbrev upto : (ℕ → Bool) → ℕ → ℕ → ℕ
upto f low n = maximum (map (λ k. cond (f k) (k + 1) 0) (range_with_len low n))

-- the same from low on, below high
abbrev pub best : (ℕ → Bool) → ℕ → ℕ → ℕ
best f low high = maximum (map (λ k. cond (f k) (k + 1) 0) (range_with_len low (high - low)))

item-le : (f : ℕ → Bool) (k : ℕ) → item f k ≤ k + 1
item-le f k = by (f k)
  where
    by : (t : Bool) → cond {A = ℕ} t (k + 1) 0 ≤ k + 1
    by true = omega arith
    by false = omega arith

item-above : (f : ℕ → Bool) (k : ℕ) → (item f k ≡ 0) ⊎ (k < item f k)
item-above f k = by (f k)
  where
    by : (t : Bool) → (cond {A = ℕ} t (k + 1) 0 ≡ 0) ⊎ (k < cond {A = ℕ} t (k + 1) 0)
    by true = inr (omega arith)
    by false = inl refl

upto-le : (f : ℕ → Bool) (low n : ℕ) → upto f low n ≤ low + n
upto-le f low zero = omega arith
upto-le f low (suc n) = omega (arith, item-le f low, upto-le f (low + 1) n)

upto-above : (f : ℕ → Bool) (low n : ℕ) → (upto f low n ≡ 0) ⊎ (low < upto f low n)
upto-above f low zero = inl refl
upto-above f low (suc n) = by (item-above f low) (upto-above f (low + 1) n)
  where
    by : (item f low ≡ 0) ⊎ (low < item f low) → (upto f (low + 1) n ≡ 0) ⊎ (low + 1 < upto f (low + 1) n)
        → (max (item f low) (upto f (low + 1) n) ≡ 0) ⊎ (low < max (item f low) (upto f (low + 1) n))
    by (inl a) (inl b) = inl (omega (arith, a, b))
    by (inr a) b = inr (omega (arith, a))
    by a (inr b) = inr (omega (arith, b))

upto-parts : (f : ℕ → Bool) (low m n : ℕ) → upto f low (m + n) ≡ max (upto f low m) (upto f (low + m) n)
upto-parts f low zero n =
    let from : low + 0 ≡ low = omega arith in
    let count : 0 + n ≡ n = omega arith in
    rw (from, count) (omega arith)
upto-parts f low (suc m) n =
    let from : (low + 1) + m ≡ low + suc m = omega arith in
    let count : suc m + n ≡ suc (m + n) = omega arith in
    let others = rw from at (upto-parts f (low + 1) m n) in
    rw count (omega (arith, others))

upto-same : (f g : ℕ → Bool) (low n : ℕ) → ((k : ℕ) → low ≤ k → k < low + n → f k ≡ g k) → upto f low n ≡ upto g low n
upto-same f g low zero same = refl
upto-same f g low (suc n) same =
    let first : item f low ≡ item g low = ap (λ t. cond t (low + 1) 0) (same low (omega arith) (omega arith)) in
    let others = upto-same f g (low + 1) n (λ k l h. same k (omega (arith, l)) (omega (arith, h))) in
    omega (arith, first, others)

upto-all : (low n : ℕ) → upto (λ k. true) low (suc n) ≡ low + suc n
upto-all low zero = omega arith
upto-all low (suc n) = omega (arith, upto-all (low + 1) n)

upto-none : (low n : ℕ) → upto (λ k. false) low n ≡ 0
upto-none low zero = refl
upto-none low (suc n) = omega (arith, upto-none (low + 1) n)

pub best-le : (f : ℕ → Bool) (low high : ℕ) → low ≤ high → best f low high ≤ high
best-le f low high order = omega (arith, order, upto-le f low (high - low))

pub best-above : (f : ℕ → Bool) (low high : ℕ) → (best f low high ≡ 0) ⊎ (low < best f low high)
best-above f low high = upto-above f low (high - low)

pub best-parts : (f : ℕ → Bool) (low mid high : ℕ) → low ≤ mid → mid ≤ high → best f low high ≡ max (best f low mid) (best f mid high)
best-parts f low mid high below above =
    let whole : (mid - low) + (high - mid) ≡ high - low = omega (arith, below, above) in
    let from : low + (mid - low) ≡ mid = omega (arith, below) in
    rw (whole, from) at (upto-parts f low (mid - low) (high - mid))

pub best-same : (f g : ℕ → Bool) (low high : ℕ) → ((k : ℕ) → low ≤ k → k < high → f k ≡ g k) → best f low high ≡ best g low high
best-same f g low high same = upto-same f g low (high - low) (λ k l h. same k l (omega (arith, l, h)))

pub best-all : (f : ℕ → Bool) (low high : ℕ) → low < high → ((k : ℕ) → low ≤ k → k < high → f k ≡ true) → best f low high ≡ high
best-all f low high some all =
    let count : high - low ≡ suc (high - low - 1) = omega (arith, some) in
    let every = upto-all low (high - low - 1) in
    best-same f (λ k. true) low high all ∙ ap (upto (λ k. true) low) count ∙ omega (arith, every, some)

pub best-none : (f : ℕ → Bool) (low high : ℕ) → ((k : ℕ) → low ≤ k → k < high → f k ≡ false) → best f low high ≡ 0
best-none f low high none = best-same f (λ k. false) low high none ∙ upto-none low (high - low)

pub best-empty : (f : ℕ → Bool) (low : ℕ) → best f low low ≡ 0
best-empty f low = best-none f low low (λ k l h. absurd (omega (arith, l, h)))

-- one number alone
pub best-one : (f : ℕ → Bool) (k : ℕ) → best f k (k + 1) ≡ cond (f k) (k + 1) 0
best-one f k = let count : k + 1 - k ≡ 1 = omega arith in ap (upto f k) count ∙ omega arith

-- a top that a nearer part of a column gives stays, whatever the rest of it gives
pub lifted-twice : (f : ℕ → Bool) (low mid high old : ℕ) → low ≤ mid → mid ≤ high → lifted (best f low mid) (lifted (best f mid high) old) ≡ lifted (best f low high) old
lifted-twice f low mid high zero below above =
    ap (lifted (best f low mid)) (lifted-none (best f mid high) 0 refl) ∙ by (best f mid high) refl (best-above f mid high) ∙ sym (lifted-none (best f low high) 0 refl)
  where
    by : (t : ℕ) → best f mid high ≡ t → (best f mid high ≡ 0) ⊎ (mid < best f mid high) → lifted (best f low mid) t ≡ best f low high
    by zero e more = let new = lifted-none (best f low mid) 0 refl in omega (arith, new, e, best-parts f low mid high below above)
    by (suc t) e (inl none) = absurd (omega (arith, e, none))
    by (suc t) e (inr more) =
        let kept = lifted-some (best f low mid) (suc t) (λ same. omega (arith, same)) in
        omega (arith, kept, e, more, best-parts f low mid high below above, best-le f low mid below)
lifted-twice f low mid high (suc old) below above =
    ap (lifted (best f low mid)) (lifted-some (best f mid high) (suc old) (λ same. omega (arith, same)))
    ∙ lifted-some (best f low mid) (suc old) (λ same. omega (arith, same))
    ∙ sym (lifted-some (best f low high) (suc old) (λ same. omega (arith, same)))

-- a top of 0 changes nothing
pub lifted-nothing : (old : ℕ) → lifted 0 old ≡ old
lifted-nothing zero = lifted-none 0 0 refl
lifted-nothing (suc old) = lifted-some 0 (suc old) (λ same. omega (arith, same))

-- a sample is open in a part, once the nearer parts are drawn, exactly where it was open in the whole
pub open-same : (f : ℕ → Bool) (low mid high end k old new : ℕ) → low ≤ mid → mid ≤ high → high ≤ end → mid ≤ k → k < high → new ≡ lifted (best f high end) old
    → (new == 0 && nat_le (best f mid high) (k + 1)) ≡ (old == 0 && nat_le (best f low end) (k + 1))
open-same f low mid high end k (suc old) new below above beyond from under is =
    ap (λ n. n == 0 && nat_le (best f mid high) (k + 1)) (is ∙ lifted-some (best f high end) (suc old) (λ same. omega (arith, same)))
    ∙ ap (λ t. t && nat_le (best f mid high) (k + 1)) some ∙ sym (ap (λ t. t && nat_le (best f low end) (k + 1)) some)
  where
    some : (suc old == 0) ≡ false
    some = ne_eqb (suc old) 0 (λ same. omega (arith, same))
open-same f low mid high end k zero new below above beyond from under is =
    ap (λ n. n == 0 && nat_le (best f mid high) (k + 1)) (is ∙ lifted-none (best f high end) 0 refl) ∙ by (best-above f high end)
  where
    first : best f low end ≡ max (best f low mid) (best f mid end)
    first = best-parts f low mid end below (omega (arith, above, beyond))

    second : best f mid end ≡ max (best f mid high) (best f high end)
    second = best-parts f mid high end above beyond

    by : (best f high end ≡ 0) ⊎ (high < best f high end) → (best f high end == 0 && nat_le (best f mid high) (k + 1)) ≡ nat_le (best f low end) (k + 1)
    by (inl none) = ap (λ n. n == 0 && nat_le (best f mid high) (k + 1)) none ∙ test (cases_lt (k + 1) (best f mid high))
      where
        test : (k + 1 < best f mid high) ⊎ (best f mid high ≤ k + 1) → nat_le (best f mid high) (k + 1) ≡ nat_le (best f low end) (k + 1)
        test (inl more) = lt-leb (best f mid high) (k + 1) more ∙ sym (lt-leb (best f low end) (k + 1) (omega (arith, first, second, more)))
        test (inr less) =
            le-leb (best f mid high) (k + 1) less
            ∙ sym (le-leb (best f low end) (k + 1) (omega (arith, first, second, none, less, best-le f low mid below, from)))
    by (inr some) =
        ap (λ t. t && nat_le (best f mid high) (k + 1)) (ne_eqb (best f high end) 0 (λ e. omega (arith, some, e)))
        ∙ sym (lt-leb (best f low end) (k + 1) (omega (arith, first, second, some, under)))

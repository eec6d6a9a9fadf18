-- Where a name stands in a list of names to which one was added, or from which one was taken.
use Rattle.std.proofs.Common.{◌≡◌, ◌≢◌, ℕ, zero, suc, ◌+◌, ◌-◌, ◌<◌, ◌≤◌, ◌⊎◌, inl, inr, Bool, true, false, cond, not, nat_le, nat_lt, ltb, List, [], ◌∷◌, ◌||◌, length, map, set, take, None, Some, slice_get, refl, ap, sym, ◌∙◌, arith}
use Rattle.std.specs.List.{insert, list_any, position, position_or_len, remove}
use Rattle.std.specs.Str.{bytes_eq}
use Rattle.std.proofs.lemmas.Bool.{cases_lt}
use Rattle.std.proofs.lemmas.Bool.Decides.{nat_tests}
use Rattle.solid_model.specs.Surgery.{down, up}

-- the place of a name among names, or how many there are where it is none of them
abbrev pub at_name : List ℕ → List (List ℕ) → ℕ
at_name x names = position_or_len (bytes_eq x) names

pub up-le : (at k : ℕ) → at ≤ k → up at k ≡ k + 1
up-le at k h = let test : nat_le at k ≡ true = grind (arith, nat_tests) in rw test refl

pub up-less : (at k : ℕ) → k < at → up at k ≡ k
up-less at k h = let test : nat_le at k ≡ false = grind (arith, nat_tests) in rw test refl

pub down-more : (at k : ℕ) → at < k → down at k ≡ k - 1
down-more at k h = let test : nat_lt at k ≡ true = grind (arith, nat_tests) in rw test refl

pub down-le : (at k : ℕ) → k ≤ at → down at k ≡ k
down-le at k h = let test : nat_lt at k ≡ false = grind (arith, nat_tests) in rw test refl

up-suc : (at k : ℕ) → up (suc at) (1 + k) ≡ 1 + up at k
up-suc at k = elim (cases_lt k at) [
  | inl less ↦ omega (arith, up-less at k less, up-less (suc at) (1 + k) (omega (arith, less)))
  | inr le ↦ omega (arith, up-le at k le, up-le (suc at) (1 + k) (omega (arith, le)))
]

down-suc : (at k : ℕ) → down (suc at) (1 + k) ≡ 1 + down at k
down-suc at k = elim (cases_lt at k) [
  | inl more ↦ omega (arith, more, down-more at k more, down-more (suc at) (1 + k) (omega (arith, more)))
  | inr le ↦ omega (arith, down-le at k le, down-le (suc at) (1 + k) (omega (arith, le)))
]

-- another name moves up where one is put in before it
pub at-insert : (x name : List ℕ) (names : List (List ℕ)) (at : ℕ) → bytes_eq x name ≡ false → at ≤ length names
    → at_name x (insert names at name) ≡ up at (at_name x names)
at-insert x name names zero other within = rw other (omega (arith, up-le 0 (at_name x names) (omega arith)))
at-insert x name [] (suc at) other within = absurd (omega (arith, within))
at-insert x name (y ∷ names) (suc at) other within = by (bytes_eq x y) (at-insert x name names at other (omega (arith, within)))
  where
    by : (b : Bool) → at_name x (insert names at name) ≡ up at (at_name x names)
        → cond (not b) (1 + at_name x (insert names at name)) 0 ≡ up (suc at) (cond (not b) (1 + at_name x names) 0)
    by true rest = sym (up-less (suc at) 0 (omega arith))
    by false rest = ap (λ n. 1 + n) rest ∙ sym (up-suc at (at_name x names))

-- a new name stands where it is put in
pub at-new : (name : List ℕ) (names : List (List ℕ)) (at : ℕ) → bytes_eq name name ≡ true → at ≤ at_name name names → at ≤ length names
    → at_name name (insert names at name) ≡ at
at-new name names zero same later within = rw same refl
at-new name [] (suc at) same later within = absurd (omega (arith, within))
at-new name (y ∷ names) (suc at) same later within = by (bytes_eq name y) later (λ h. at-new name names at same h (omega (arith, within)))
  where
    by : (b : Bool) → suc at ≤ cond (not b) (1 + at_name name names) 0 → (at ≤ at_name name names → at_name name (insert names at name) ≡ at)
        → cond (not b) (1 + at_name name (insert names at name)) 0 ≡ suc at
    by true h rest = absurd (omega (arith, h))
    by false h rest = omega (arith, rest (omega (arith, h)))

-- another name moves down where one is taken out before it
pub at-remove : (x : List ℕ) (names : List (List ℕ)) (at : ℕ) → at < length names → at_name x names ≢ at
    → at_name x (remove names at) ≡ down at (at_name x names)
at-remove x [] at within other = absurd (omega (arith, within))
at-remove x (y ∷ names) zero within other = by (bytes_eq x y) other
  where
    by : (b : Bool) → cond (not b) (1 + at_name x names) 0 ≢ 0 → at_name x names ≡ down 0 (cond (not b) (1 + at_name x names) 0)
    by true h = absurd (h refl)
    by false h = omega (arith, down-more 0 (1 + at_name x names) (omega arith))
at-remove x (y ∷ names) (suc at) within other = by (bytes_eq x y) other (λ h. at-remove x names at (omega (arith, within)) h)
  where
    by : (b : Bool) → cond (not b) (1 + at_name x names) 0 ≢ suc at → (at_name x names ≢ at → at_name x (remove names at) ≡ down at (at_name x names))
        → cond (not b) (1 + at_name x (remove names at)) 0 ≡ down (suc at) (cond (not b) (1 + at_name x names) 0)
    by true h rest = sym (down-le (suc at) 0 (omega arith))
    by false h rest = ap (λ n. 1 + n) (rest (λ same. h (omega (arith, same)))) ∙ sym (down-suc at (at_name x names))

-- a test passes in a front exactly where it first passes there
pub list_any-take : {A : Type 0} (p : A → Bool) (xs : List A) (at : ℕ) → at ≤ length xs → list_any p (take at xs) ≡ nat_lt (position_or_len p xs) at
list_any-take p xs zero within = grind (arith, nat_tests)
list_any-take p [] (suc at) within = absurd (omega (arith, within))
list_any-take p (x ∷ xs) (suc at) within = by (p x) (list_any-take p xs at (omega (arith, within)))
  where
    by : (b : Bool) → list_any p (take at xs) ≡ nat_lt (position_or_len p xs) at
        → (b || list_any p (take at xs)) ≡ nat_lt (cond (not b) (1 + position_or_len p xs) 0) (suc at)
    by true rest = grind (arith, nat_tests)
    by false rest = grind (arith, nat_tests)

-- tests that agree on each element first pass at one place
pub position-alike : {A : Type 0} (p q : A → Bool) (xs : List A) → ((k : ℕ) (x : A) → slice_get xs k ≡ Some x → p x ≡ q x) → position p xs ≡ position q xs
position-alike {A = A} p q xs same = ap (λ n. cond (ltb n (length xs)) (Some n) None) (first xs same)
  where
    first : (ys : List A) → ((k : ℕ) (x : A) → slice_get ys k ≡ Some x → p x ≡ q x) → position_or_len p ys ≡ position_or_len q ys
    first [] alike = refl
    first (y ∷ ys) alike = rw (alike 0 y refl, first ys (λ k x e. alike (suc k) x e)) refl

-- functions that agree on each element give one list
pub map-alike : {A B : Type 0} (f g : A → B) (xs : List A) → ((k : ℕ) (x : A) → slice_get xs k ≡ Some x → f x ≡ g x) → map f xs ≡ map g xs
map-alike f g [] same = refl
map-alike f g (x ∷ xs) same = rw (same 0 x refl, map-alike f g xs (λ k y e. same (suc k) y e)) refl

pub map-put : {A B : Type 0} (f : A → B) (xs : List A) (at : ℕ) (y : A) → map f (insert xs at y) ≡ insert (map f xs) at (f y)
map-put f xs zero y = refl
map-put f [] (suc at) y = refl
map-put f (x ∷ xs) (suc at) y = ap (λ ys. f x ∷ ys) (map-put f xs at y)

pub map-cut : {A B : Type 0} (f : A → B) (xs : List A) (at : ℕ) → map f (remove xs at) ≡ remove (map f xs) at
map-cut f [] zero = refl
map-cut f [] (suc at) = refl
map-cut f (x ∷ xs) zero = refl
map-cut f (x ∷ xs) (suc at) = ap (λ ys. f x ∷ ys) (map-cut f xs at)

-- what stands at a place after an element was replaced, put in or taken out
pub slice_get-set : {A : Type 0} (xs : List A) (at : ℕ) (y : A) (i : ℕ) (z : A) → slice_get (set xs at y) i ≡ Some z
    → ((i ≡ at) × (z ≡ y)) ⊎ (slice_get xs i ≡ Some z)
slice_get-set [] at y i z e = inr e
slice_get-set (x ∷ xs) zero y zero z e = inl (refl, (cc))
slice_get-set (x ∷ xs) zero y (suc i) z e = inr e
slice_get-set (x ∷ xs) (suc at) y zero z e = inr e
slice_get-set (x ∷ xs) (suc at) y (suc i) z e = elim (slice_get-set xs at y i z e) [ inl new ↦ inl (ap suc new.0, new.1) | inr old ↦ inr old ]

pub slice_get-insert : {A : Type 0} (xs : List A) (at : ℕ) (y : A) (i : ℕ) (z : A) → at ≤ length xs → slice_get (insert xs at y) i ≡ Some z
    → ((i < at) × (slice_get xs i ≡ Some z)) ⊎ (((i ≡ at) × (z ≡ y)) ⊎ ((j : ℕ) × (i ≡ suc j) × (at ≤ j) × (slice_get xs j ≡ Some z)))
slice_get-insert xs zero y zero z within e = inr (inl (refl, (cc)))
slice_get-insert xs zero y (suc i) z within e = inr (inr (i, refl, omega arith, e))
slice_get-insert [] (suc at) y i z within e = absurd (omega (arith, within))
slice_get-insert (x ∷ xs) (suc at) y zero z within e = inl (omega arith, e)
slice_get-insert (x ∷ xs) (suc at) y (suc i) z within e = elim (slice_get-insert xs at y i z (omega (arith, within)) e) [
  | inl before ↦ inl (omega (arith, before.0), before.1)
  | inr other ↦ elim other [
    | inl new ↦ inr (inl (ap suc new.0, new.1))
    | inr behind ↦ inr (inr (suc behind.0, ap suc behind.1, omega (arith, behind.2), behind.3))
  ]
]

pub slice_get-remove : {A : Type 0} (xs : List A) (at i : ℕ) (z : A) → slice_get (remove xs at) i ≡ Some z
    → ((i < at) × (slice_get xs i ≡ Some z)) ⊎ ((at ≤ i) × (slice_get xs (suc i) ≡ Some z))
slice_get-remove [] zero i z e = (cc)
slice_get-remove [] (suc at) i z e = (cc)
slice_get-remove (x ∷ xs) zero i z e = inr (omega arith, e)
slice_get-remove (x ∷ xs) (suc at) zero z e = inl (omega arith, e)
slice_get-remove (x ∷ xs) (suc at) (suc i) z e = elim (slice_get-remove xs at i z e) [
  | inl before ↦ inl (omega (arith, before.0), before.1)
  | inr behind ↦ inr (omega (arith, behind.0), behind.1)
]

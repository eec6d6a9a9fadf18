-- Where a test first passes, and what stands at a place of a list that was changed.
use Rattle.std.proofs.Common.{◌≡◌, ◌≢◌, ℕ, zero, suc, ◌+◌, ◌-◌, ◌<◌, ◌≤◌, Bool, true, false, ltb, List, [], ◌∷◌, ◌++◌, length, map, set, take, None, Some, slice_get, refl, ap, sym, subst, ◌∙◌, arith}
use Rattle.std.specs.List.{insert, position, position_or_len, remove, swap_remove}
use Rattle.std.proofs.lemmas.Bool.Decides.{nat_tests}
use Rattle.std.proofs.lemmas.List.{length-append}
use Rattle.std.proofs.lemmas.Option.{same_Some, slice_get_within}
use Rattle.std.proofs.Math.Seq.{get_or-append_seam, take-append_seam}

-- a test passes first at the place where it passes and before which it does not
first-at : {A : Type 0} (p : A → Bool) (xs : List A) (at : ℕ) (x : A) → slice_get xs at ≡ Some x → p x ≡ true → ((k : ℕ) (y : A) → k < at → slice_get xs k ≡ Some y → p y ≡ false)
    → position_or_len p xs ≡ at
first-at p [] at x e test before = (cc)
first-at p (y ∷ ys) zero x e test before = let is : y ≡ x = (cc) in let passes : p y ≡ true = ap p is ∙ test in rw passes refl
first-at p (y ∷ ys) (suc at) x e test before =
    let fails : p y ≡ false = before 0 y (omega arith) refl in
    let rest = first-at p ys at x e test (λ k z h there. before (suc k) z (omega (arith, h)) there) in
    rw (fails, rest) (omega arith)

pub position-at : {A : Type 0} (p : A → Bool) (xs : List A) (at : ℕ) (x : A) → slice_get xs at ≡ Some x → p x ≡ true → ((k : ℕ) (y : A) → k < at → slice_get xs k ≡ Some y → p y ≡ false)
    → position p xs ≡ Some at
position-at p xs at x e test before =
    let is = first-at p xs at x e test before in
    let within = slice_get_within xs at x e in
    let less : ltb (position_or_len p xs) (length xs) ≡ true = grind (arith, nat_tests) in
    rw less (ap Some is)

-- a test that passes for no element passes at no place
pub position-none : {A : Type 0} (p : A → Bool) (xs : List A) → ((k : ℕ) (y : A) → slice_get xs k ≡ Some y → p y ≡ false) → position p xs ≡ None
position-none p xs never =
    let is = all xs never in
    let past : ltb (position_or_len p xs) (length xs) ≡ false = grind (arith, nat_tests) in
    rw past refl
  where
    all : (ys : List _) → ((k : ℕ) (y : _) → slice_get ys k ≡ Some y → p y ≡ false) → position_or_len p ys ≡ length ys
    all [] h = refl
    all (y ∷ ys) h =
        let fails : p y ≡ false = h 0 y refl in
        let rest = all ys (λ k z e. h (suc k) z e) in
        rw (fails, rest) (omega arith)

-- what stands where a test passes first
pub record Passes {A : Type 0} (p : A → Bool) (xs : List A) (at : ℕ) : Type 0 where
  pub item : A
  pub there : slice_get xs at ≡ Some item
  pub test : p item ≡ true

pub position-passes : {A : Type 0} (p : A → Bool) (xs : List A) (at : ℕ) → position p xs ≡ Some at → Passes p xs at
position-passes p [] at e = (cc)
position-passes p (x ∷ xs) at e = by (p x) refl (ltb (position_or_len p xs) (length xs)) refl (λ k h. position-passes p xs k h)
  where
    by : (b : Bool) → p x ≡ b → (d : Bool) → ltb (position_or_len p xs) (length xs) ≡ d
        → ((k : ℕ) → position p xs ≡ Some k → Passes p xs k) → Passes p (x ∷ xs) at
    by true passes d is later =
        let less : ltb 0 (length (x ∷ xs)) ≡ true = grind (arith, nat_tests) in
        let here = rw (passes, less) at e in
        let at_is : 0 ≡ at = same_Some _ _ here in
        subst (λ k. Passes p (x ∷ xs) k) at_is (record { item = x; there = refl; test = passes })
    by false fails true is later =
        let less : ltb (1 + position_or_len p xs) (length (x ∷ xs)) ≡ true = grind (arith, nat_tests) in
        let here = rw (fails, less) at e in
        let at_is : suc (position_or_len p xs) ≡ at = omega (arith, same_Some _ _ here) in
        let found : position p xs ≡ Some (position_or_len p xs) = rw is refl in
        let rest = later (position_or_len p xs) found in
        subst (λ k. Passes p (x ∷ xs) k) at_is (record { item = rest.item; there = rest.there; test = rest.test })
    by false fails false is later =
        let more : ltb (1 + position_or_len p xs) (length (x ∷ xs)) ≡ false = grind (arith, nat_tests) in
        let here = rw (fails, more) at e in
        (cc)

-- what stands in a front, mapped
pub get-front : {A B : Type 0} (f : A → B) (xs : List A) (count place : ℕ) (x : A) → place < count → slice_get xs place ≡ Some x → slice_get (map f (take count xs)) place ≡ Some (f x)
get-front f [] count place x h e = (cc)
get-front f (y ∷ ys) zero place x h e = absurd (omega (arith, h))
get-front f (y ∷ ys) (suc count) zero x h e = let is : y ≡ x = (cc) in ap (λ z. Some (f z)) is
get-front f (y ∷ ys) (suc count) (suc place) x h e = get-front f ys count place x (omega (arith, h)) e

pub record InFront {A B : Type 0} (f : A → B) (xs : List A) (count place : ℕ) (y : B) : Type 0 where
  pub item : A
  pub there : slice_get xs place ≡ Some item
  pub front : place < count
  pub is : y ≡ f item

pub in-front : {A B : Type 0} (f : A → B) (xs : List A) (count place : ℕ) (y : B) → slice_get (map f (take count xs)) place ≡ Some y → InFront f xs count place y
in-front f [] zero place y e = (cc)
in-front f [] (suc count) place y e = (cc)
in-front f (x ∷ xs) zero place y e = (cc)
in-front f (x ∷ xs) (suc count) zero y e = record { item = x; there = refl; front = omega arith; is = sym (same_Some _ _ e) }
in-front f (x ∷ xs) (suc count) (suc place) y e =
    let rest = in-front f xs count place y e in
    record { item = rest.item; there = rest.there; front = omega (arith, rest.front); is = rest.is }

pub get-take : {A : Type 0} (xs : List A) (count place : ℕ) (x : A) → slice_get (take count xs) place ≡ Some x → (place < count) × (slice_get xs place ≡ Some x)
get-take [] zero place x e = (cc)
get-take [] (suc count) place x e = (cc)
get-take (y ∷ ys) zero place x e = (cc)
get-take (y ∷ ys) (suc count) zero x e = (omega arith, e)
get-take (y ∷ ys) (suc count) (suc place) x e = let rest = get-take ys count place x e in (omega (arith, rest.0), rest.1)

pub get-set : {A : Type 0} (xs : List A) (k : ℕ) (y : A) → k < length xs → slice_get (set xs k y) k ≡ Some y
get-set [] k y h = absurd (omega (arith, h))
get-set (x ∷ xs) zero y h = refl
get-set (x ∷ xs) (suc k) y h = get-set xs k y (omega (arith, h))

pub get-set-other : {A : Type 0} (xs : List A) (k : ℕ) (y : A) (j : ℕ) → j ≢ k → slice_get (set xs k y) j ≡ slice_get xs j
get-set-other [] k y j h = refl
get-set-other (x ∷ xs) zero y zero h = absurd (h refl)
get-set-other (x ∷ xs) zero y (suc j) h = refl
get-set-other (x ∷ xs) (suc k) y zero h = refl
get-set-other (x ∷ xs) (suc k) y (suc j) h = get-set-other xs k y j (λ e. h (ap suc e))

pub get-push : {A : Type 0} (xs : List A) (y : A) (j : ℕ) → j < length xs → slice_get (xs ++ y ∷ []) j ≡ slice_get xs j
get-push [] y j h = absurd (omega (arith, h))
get-push (x ∷ xs) y zero h = refl
get-push (x ∷ xs) y (suc j) h = get-push xs y j (omega (arith, h))

pub get-last : {A : Type 0} (xs : List A) (y : A) → slice_get (xs ++ y ∷ []) (length xs) ≡ Some y
get-last [] y = refl
get-last (x ∷ xs) y = get-last xs y

-- a front of a list into which an element was put, or out of which one was taken
pub take-insert : {A : Type 0} (xs : List A) (at count : ℕ) (x : A) → at ≤ count → take (suc count) (insert xs at x) ≡ insert (take count xs) at x
take-insert xs zero count x h = refl
take-insert [] (suc at) zero x h = absurd (omega (arith, h))
take-insert [] (suc at) (suc count) x h = refl
take-insert (y ∷ ys) (suc at) zero x h = absurd (omega (arith, h))
take-insert (y ∷ ys) (suc at) (suc count) x h = ap (λ zs. y ∷ zs) (take-insert ys at count x (omega (arith, h)))

pub take-remove : {A : Type 0} (xs : List A) (from count : ℕ) → count ≤ from → take count (remove xs from) ≡ take count xs
take-remove [] zero count h = refl
take-remove [] (suc from) count h = refl
take-remove (y ∷ ys) zero zero h = refl
take-remove (y ∷ ys) zero (suc count) h = absurd (omega (arith, h))
take-remove (y ∷ ys) (suc from) zero h = refl
take-remove (y ∷ ys) (suc from) (suc count) h = ap (λ zs. y ∷ zs) (take-remove ys from count (omega (arith, h)))

pub take-insert-end : {A : Type 0} (xs : List A) (at : ℕ) (x : A) → at ≤ length xs → take at (insert xs at x) ≡ take at xs
take-insert-end xs zero x h = refl
take-insert-end [] (suc at) x h = absurd (omega (arith, h))
take-insert-end (y ∷ ys) (suc at) x h = ap (λ zs. y ∷ zs) (take-insert-end ys at x (omega (arith, h)))

pub take-remove-in : {A : Type 0} (xs : List A) (at count : ℕ) → at ≤ count → suc count ≤ length xs → take count (remove xs at) ≡ remove (take (suc count) xs) at
take-remove-in [] at count h few = absurd (omega (arith, few))
take-remove-in (y ∷ ys) zero count h few = refl
take-remove-in (y ∷ ys) (suc at) zero h few = absurd (omega (arith, h))
take-remove-in (y ∷ ys) (suc at) (suc count) h few = ap (λ zs. y ∷ zs) (take-remove-in ys at count (omega (arith, h)) (omega (arith, few)))

-- functions that agree but on one element
pub map-but-one : {A B : Type 0} (f g : A → B) (xs : List A) (at : ℕ) (x : A) → slice_get xs at ≡ Some x → ((k : ℕ) (y : A) → k ≢ at → slice_get xs k ≡ Some y → f y ≡ g y)
    → map f xs ≡ set (map g xs) at (f x)
map-but-one f g [] at x e alike = (cc)
map-but-one f g (y ∷ ys) zero x e alike =
    let is : y ≡ x = (cc) in
    let rest : map f ys ≡ map g ys = same ys (λ k z there. alike (suc k) z (λ h. omega (arith, h)) there) in
    rw (is, rest) refl
  where
    same : (zs : List _) → ((k : ℕ) (z : _) → slice_get zs k ≡ Some z → f z ≡ g z) → map f zs ≡ map g zs
    same [] h = refl
    same (z ∷ zs) h = rw (h 0 z refl, same zs (λ k w there. h (suc k) w there)) refl
map-but-one f g (y ∷ ys) (suc at) x e alike =
    let here : f y ≡ g y = alike 0 y (λ h. omega (arith, h)) refl in
    rw (here, map-but-one f g ys at x e (λ k z other there. alike (suc k) z (λ h. other (omega (arith, h))) there)) refl

-- the last element in the place of another
pub swap-last : {A : Type 0} (xs : List A) (y d : A) (at : ℕ) → at < length xs → swap_remove (xs ++ y ∷ []) at d ≡ set xs at y
swap-last xs y d at h =
    let long : length (xs ++ y ∷ []) - 1 ≡ length xs = omega (arith, length-append xs (y ∷ [])) in
    rw (long, get_or-append_seam xs y [] d) (front xs at h)
  where
    front : (zs : List _) (k : ℕ) → k < length zs → take (length zs) (set (zs ++ y ∷ []) k y) ≡ set zs k y
    front [] k less = absurd (omega (arith, less))
    front (z ∷ zs) zero less = ap (λ ws. y ∷ ws) (take-append_seam zs (y ∷ []))
    front (z ∷ zs) (suc k) less = ap (λ ws. z ∷ ws) (front zs k (omega (arith, less)))

pub take-front : {A : Type 0} (xs ys : List A) (count : ℕ) → count ≤ length xs → take count (xs ++ ys) ≡ take count xs
take-front xs ys zero h = refl
take-front [] ys (suc count) h = absurd (omega (arith, h))
take-front (x ∷ xs) ys (suc count) h = ap (λ zs. x ∷ zs) (take-front xs ys count (omega (arith, h)))

pub set-last : {A : Type 0} (xs : List A) (y : A) (k : ℕ) → length xs ≡ k → set (xs ++ y ∷ []) k y ≡ xs ++ y ∷ []
set-last xs y k long = subst (λ n. set (xs ++ y ∷ []) n y ≡ xs ++ y ∷ []) long (here xs)
  where
    here : (zs : List _) → set (zs ++ y ∷ []) (length zs) y ≡ zs ++ y ∷ []
    here [] = refl
    here (z ∷ zs) = ap (λ ws. z ∷ ws) (here zs)

-- the last element taken out again
pub swap-end : {A : Type 0} (xs : List A) (y d : A) (at : ℕ) → at ≡ length xs → swap_remove (xs ++ y ∷ []) at d ≡ xs
swap-end xs y d at is =
    let long : length (xs ++ y ∷ []) - 1 ≡ length xs = omega (arith, length-append xs (y ∷ [])) in
    rw (long, get_or-append_seam xs y [] d, is) (front xs)
  where
    front : (zs : List _) → take (length zs) (set (zs ++ y ∷ []) (length zs) y) ≡ zs
    front [] = refl
    front (z ∷ zs) = ap (λ ws. z ∷ ws) (front zs)

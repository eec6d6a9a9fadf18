-- Lists: what they have, what holds of all of their elements, lists that are joined, filtered and in order.
-- Proofs of the crates above cite these.
use Rattle.std.proofs.Common.{Bool, List, Some, [], add-zero, ap, arith, cond, drop, false, inl, inr, refl, slice_get, suc, take, true, zero, ℕ, ◌*◌, ◌++◌, ◌+◌, ◌-◌, ◌<◌, ◌∙◌, ◌∷◌, ◌≡◌, ◌≢◌, ◌≤◌}
use Rattle.std.specs.Prelude.{◌⊎◌, map, filter, flat_map, get_or, length, All, AllPairs, Contains}
use Rattle.std.specs.List.{range_with_len, sum_by}
use Rattle.std.proofs.lemmas.Bool.{cases_order}
use Rattle.std.proofs.lemmas.List.{drop-drop, drop_at, get_or-append-add, get_or_append_left, length-append, length-take-le}
use Rattle.std.proofs.lemmas.Simd.{map-map}
use Rattle.std.proofs.lemmas.List.Concat.{flat_map-append}
use Rattle.std.proofs.lemmas.List.Elements.{All-append, All-cons, All-head, All-nil, All-tail, Contains-append_cases, Contains-append_left, Contains-append_right, filter-append}
use Rattle.std.proofs.lemmas.List.Kept.{AllPairs-cons}
use borrow.Rule.Slice.PartMut.{put_mid}
use Rattle.std.specs.Str.{bytes_eq}
use Rattle.std.proofs.lemmas.Slice.Eq.{bytes_eq-Decides}
use Rattle.std.proofs.lemmas.List.Sums.{sum_by-cons}
use Rattle.std.proofs.Math.Nat.{suc-mul}

-- ---- what lists have

-- an empty list has nothing
pub not_in_none : {A : Type 0} (x : A) → Contains [] x → ⊥
not_in_none x h = omega (arith, h.1)

-- a list has its first element
pub in_head : {A : Type 0} (xs : List A) (x : A) → Contains (x ∷ xs) x
in_head xs x = (0, omega arith, refl)

-- and what the rest of it has
pub in_tail : {A : Type 0} (y : A) (xs : List A) (x : A) → Contains xs x → Contains (y ∷ xs) x
in_tail y xs x h = Contains-append_right (y ∷ []) xs x h

-- and nothing else
pub head_or_tail : {A : Type 0} (y : A) (ys : List A) (x : A) → Contains (y ∷ ys) x
    → (y ≡ x) ⊎ Contains ys x
head_or_tail {A} y ys x h = at h.0 h.1 h.2
  where
    at : (k : ℕ) → k < length (y ∷ ys) → get_or (y ∷ ys) k x ≡ x → (y ≡ x) ⊎ Contains ys x
    at zero within e = inl e
    at (suc k) within e = inr (k, omega (arith, within), e)

-- a range has each number from its first one on, before its end
pub in_range : (a n k : ℕ) → a ≤ k → k < a + n → Contains (range_with_len a n) k
in_range a zero k low high = absurd (omega (arith, low, high))
in_range a (suc n) k low high =
    by (cases_order a k) (λ less. in_range (a + 1) n k (omega (arith, less)) (omega (arith, high)))
  where
    by : (a ≡ k) ⊎ ((a < k) ⊎ (k < a)) → (a < k → Contains (range_with_len (a + 1) n) k)
        → Contains (a ∷ range_with_len (a + 1) n) k
    by (inl same) next = rw same (in_head (range_with_len (k + 1) n) k)
    by (inr (inl less)) next = in_tail a (range_with_len (a + 1) n) k (next less)
    by (inr (inr more)) next = absurd (omega (arith, low, more))

-- a number that a range has lies before its end
pub from_range : (a n k : ℕ) → Contains (range_with_len a n) k → k < a + n
from_range a zero k h = absurd (not_in_none k h)
from_range a (suc n) k h = by (head_or_tail a (range_with_len (a + 1) n) k h) (λ later. from_range (a + 1) n k later)
  where
    by : (a ≡ k) ⊎ Contains (range_with_len (a + 1) n) k → (Contains (range_with_len (a + 1) n) k → k < (a + 1) + n) → k < a + suc n
    by (inl same) next = omega (arith, same)
    by (inr later) next = let e = next later in omega (arith, e)

-- a list of images has the image of each element
pub in_map : {X A : Type 0} (f : X → A) (ys : List X) (y : X) → Contains ys y
    → Contains (map f ys) (f y)
in_map f [] y h = absurd (not_in_none y h)
in_map f (z ∷ zs) y h = by (head_or_tail z zs y h) (λ later. in_map f zs y later)
  where
    by : (z ≡ y) ⊎ Contains zs y → (Contains zs y → Contains (map f zs) (f y))
        → Contains (f z ∷ map f zs) (f y)
    by (inl same) next = rw same (in_head (map f zs) (f y))
    by (inr later) next = in_tail (f z) (map f zs) (f y) (next later)

-- and nothing else
pub from_map : {X A : Type 0} (f : X → A) (xs : List X) (a : A) → Contains (map f xs) a → (x : X) × Contains xs x × (f x ≡ a)
from_map {X = X} {A = A} f [] a h = absurd (not_in_none a h)
from_map {X = X} {A = A} f (x ∷ xs) a h = by (head_or_tail (f x) (map f xs) a h) (λ later. from_map f xs a later)
  where
    by : (f x ≡ a) ⊎ Contains (map f xs) a → (Contains (map f xs) a → (y : X) × Contains xs y × (f y ≡ a)) → (y : X) × Contains (x ∷ xs) y × (f y ≡ a)
    by (inl here) next = (x, in_head xs x, here)
    by (inr later) next = let r = next later in (r.0, in_tail x xs r.0 r.1, r.2)

-- a filter keeps each element that passes
pub in_filter : {A : Type 0} (p : A → Bool) (ys : List A) (x : A) → Contains ys x → p x ≡ true
    → Contains (filter p ys) x
in_filter p [] x h passes = absurd (not_in_none x h)
in_filter p (y ∷ ys) x h passes =
    by (head_or_tail y ys x h) (λ later. in_filter p ys x later passes)
  where
    kept : (b : Bool) → Contains (filter p ys) x → Contains
        (cond b (y ∷ filter p ys) (filter p ys)) x
    kept true k = in_tail y (filter p ys) x k
    kept false k = k

    by : (y ≡ x) ⊎ Contains ys x → (Contains ys x → Contains (filter p ys) x)
        → Contains (cond (p y) (y ∷ filter p ys) (filter p ys)) x
    by (inl same) next = rw (same, passes) (in_head (filter p ys) x)
    by (inr later) next = kept (p y) (next later)

-- joined lists have what each of them has
pub in_flat : {X A : Type 0} (f : X → List A) (ys : List X) (y : X) (x : A) → Contains ys y
    → Contains (f y) x → Contains (flat_map f ys) x
in_flat f [] y x h k = absurd (not_in_none y h)
in_flat f (z ∷ zs) y x h k = by (head_or_tail z zs y h) (λ later. in_flat f zs y x later k)
  where
    by : (z ≡ y) ⊎ Contains zs y → (Contains zs y → Contains (flat_map f zs) x)
        → Contains (f z ++ flat_map f zs) x
    by (inl same) next = Contains-append_left (f z) (flat_map f zs) x (rw same k)
    by (inr later) next = Contains-append_right (f z) (flat_map f zs) x (next later)

-- and nothing else
pub from_flat : {X A : Type 0} (f : X → List A) (xs : List X) (a : A) → Contains (flat_map f xs) a → (x : X) × Contains xs x × Contains (f x) a
from_flat {X = X} {A = A} f [] a h = absurd (not_in_none a h)
from_flat {X = X} {A = A} f (x ∷ xs) a h = by (Contains-append_cases (f x) (flat_map f xs) a h) (λ later. from_flat f xs a later)
  where
    by : Contains (f x) a ⊎ Contains (flat_map f xs) a → (Contains (flat_map f xs) a → (y : X) × Contains xs y × Contains (f y) a) → (y : X) × Contains (x ∷ xs) y × Contains (f y) a
    by (inl here) next = (x, in_head xs x, here)
    by (inr later) next = let r = next later in (r.0, in_tail x xs r.0 r.1, r.2)

-- ---- what holds of all elements

-- what holds of all elements of two lists, put behind one another, holds of all of the first
pub all_left : {A : Type 0} (P : A → Type 0) (xs ys : List A) → All P (xs ++ ys) → All P xs
all_left P [] ys h = All-nil P
all_left P (x ∷ xs) ys h = All-cons P x xs (All-head P x (xs ++ ys) h) (all_left P xs ys (All-tail P x (xs ++ ys) h))

-- and of all of the second
pub all_right : {A : Type 0} (P : A → Type 0) (xs ys : List A) → All P (xs ++ ys) → All P ys
all_right P [] ys h = h
all_right P (x ∷ xs) ys h = all_right P xs ys (All-tail P x (xs ++ ys) h)

-- what holds of all elements of each list holds of all of them, joined
pub all_flat : {X A : Type 0} (P : A → Type 0) (f : X → List A) → ((x : X) → All P (f x))
    → (xs : List X) → All P (flat_map f xs)
all_flat P f each [] = All-nil P
all_flat P f each (x ∷ xs) = All-append P (f x) (flat_map f xs) (each x) (all_flat P f each xs)

-- the same of lists by their numbers
pub all_within : {A : Type 0} (P : A → Type 0) (f : ℕ → List A) (a n : ℕ)
    → ((k : ℕ) → k < a + n → All P (f k)) → All P (flat_map f (range_with_len a n))
all_within P f a zero each = All-nil P
all_within P f a (suc n) each =
    All-append P (f a) (flat_map f (range_with_len (a + 1) n)) (each a (omega arith))
    (all_within P f (a + 1) n (λ k few. each k (omega (arith, few))))

-- ---- lists joined end to end

-- equal lists give equal ones
pub flat_same : {A : Type 0} (f h : ℕ → List A) (a n : ℕ) → ((k : ℕ) → k < a + n → f k ≡ h k) → flat_map f (range_with_len a n) ≡ flat_map h (range_with_len a n)
flat_same f h a zero same = refl
flat_same f h a (suc n) same =
    let first = same a (omega arith) in
    let others = flat_same f h (a + 1) n (λ k few. same k (omega (arith, few))) in
    cc

-- empty lists give an empty one
pub flat_none : {A : Type 0} (f : ℕ → List A) (a n : ℕ) → ((k : ℕ) → k < a + n → f k ≡ []) → flat_map f (range_with_len a n) ≡ []
flat_none f a zero none = refl
flat_none f a (suc n) none = rw (none a (omega arith)) (flat_none f (a + 1) n (λ k few. none k (omega (arith, few))))

-- an empty last list is left out
pub flat_last : {A : Type 0} (f : ℕ → List A) (a n : ℕ) → f (a + n) ≡ [] → flat_map f (range_with_len a (n + 1)) ≡ flat_map f (range_with_len a n)
flat_last f a zero none = let e = rw (add-zero a) at none in rw e refl
flat_last f a (suc n) none =
    let e : (a + 1) + n ≡ a + suc n = omega arith in
    let last : f ((a + 1) + n) ≡ [] = rw e none in
    let longer : suc n + 1 ≡ suc (n + 1) = omega arith in
    rw longer (ap (λ xs. f a ++ xs) (flat_last f (a + 1) n last))

-- lists of one length make a list of so many times that length
pub flat_length : {A : Type 0} (f : ℕ → List A) (a n size : ℕ) → ((k : ℕ) → length (f k) ≡ size) → length (flat_map f (range_with_len a n)) ≡ n * size
flat_length f a zero size each = omega arith
flat_length f a (suc n) size each =
    omega (arith, length-append (f a) (flat_map f (range_with_len (a + 1) n)), each a, flat_length f (a + 1) n size each)

-- and each element of such a one
pub flat_item : {A : Type 0} (f : ℕ → List A) (a n size k i : ℕ) (d : A) → ((k : ℕ) → length (f k) ≡ size) → k < n → i < size
    → get_or (flat_map f (range_with_len a n)) (k * size + i) d ≡ get_or (f (a + k)) i d
flat_item f a zero size k i d each few within = absurd (omega (arith, few))
flat_item f a (suc n) size zero i d each few within =
    let first = each a in
    let here : 0 * size + i ≡ i = omega arith in
    let at : a + 0 ≡ a = omega arith in
    rw (here, at) (get_or_append_left (f a) (flat_map f (range_with_len (a + 1) n)) d i (omega (arith, first, within)))
flat_item f a (suc n) size (suc k) i d each few within =
    let first = each a in
    let there : suc k * size + i ≡ length (f a) + (k * size + i) = omega (arith, first) in
    let at : (a + 1) + k ≡ a + suc k = omega arith in
    ap (λ m. get_or (f a ++ flat_map f (range_with_len (a + 1) n)) m d) there
    ∙ get_or-append-add (f a) (flat_map f (range_with_len (a + 1) n)) (k * size + i) d
    ∙ flat_item f (a + 1) n size k i d each (omega (arith, few)) within
    ∙ ap (λ m. get_or (f m) i d) at

-- lists of lists that are joined, and joined again
pub flat_flat : {X Y A : Type 0} (h : Y → List A) (f : X → List Y) (xs : List X) → flat_map h (flat_map f xs) ≡ flat_map (λ x. flat_map h (f x)) xs
flat_flat h f [] = refl
flat_flat h f (x ∷ xs) = rw (flat_map-append h (f x) (flat_map f xs)) (ap (λ ys. flat_map h (f x) ++ ys) (flat_flat h f xs))

-- ---- filters

-- a filter makes no list longer
pub filter_length : {A : Type 0} (q : A → Bool) (xs : List A) → length (filter q xs) ≤ length xs
filter_length q [] = omega arith
filter_length q (x ∷ xs) = by (q x) (filter_length q xs)
  where
    by : (b : Bool) → length (filter q xs) ≤ length xs → length (cond b (x ∷ filter q xs) (filter q xs)) ≤ suc (length xs)
    by true h = omega (arith, h)
    by false h = omega (arith, h)

-- a filter of joined lists joins the filters of each
pub filter_flat : {X A : Type 0} (p : A → Bool) (f : X → List A) (xs : List X) → filter p (flat_map f xs) ≡ flat_map (λ x. filter p (f x)) xs
filter_flat p f [] = refl
filter_flat p f (x ∷ xs) = rw (filter-append p (f x) (flat_map f xs)) (ap (λ ys. filter p (f x) ++ ys) (filter_flat p f xs))

-- a filter of images has the images of what passes
pub filter_of_map : {X A : Type 0} (q : A → Bool) (f : X → A) (xs : List X) → filter q (map f xs) ≡ map f (filter (λ x. q (f x)) xs)
filter_of_map q f [] = refl
filter_of_map q f (x ∷ xs) = by (q (f x)) (filter_of_map q f xs)
  where
    by : (b : Bool) → filter q (map f xs) ≡ map f (filter (λ x. q (f x)) xs) → cond b (f x ∷ filter q (map f xs)) (filter q (map f xs)) ≡ map f (cond b (x ∷ filter (λ x. q (f x)) xs) (filter (λ x. q (f x)) xs))
    by true rest = ap (λ ys. f x ∷ ys) rest
    by false rest = rest

-- nothing passes a filter after another one, where what the other keeps fails it
pub none_left : {A : Type 0} (p q : A → Bool) (xs : List A) → All (λ x. q x ≡ true → p x ≡ false) xs → filter p (filter q xs) ≡ []
none_left p q [] h = refl
none_left p q (x ∷ xs) h =
    by (q x) (All-head (λ x. q x ≡ true → p x ≡ false) x xs h) (none_left p q xs (All-tail (λ x. q x ≡ true → p x ≡ false) x xs h))
  where
    by : (b : Bool) → (b ≡ true → p x ≡ false) → filter p (filter q xs) ≡ [] → filter p (cond b (x ∷ filter q xs) (filter q xs)) ≡ []
    by true fails rest = rw (fails refl) rest
    by false fails rest = rest

-- a filter that each element passes leaves nothing out
pub all_kept : {A : Type 0} (q : A → Bool) (xs : List A) → All (λ x. q x ≡ true) xs → filter q xs ≡ xs
all_kept q [] h = refl
all_kept q (x ∷ xs) h =
    rw (All-head (λ x. q x ≡ true) x xs h) (ap (λ ys. x ∷ ys) (all_kept q xs (All-tail (λ x. q x ≡ true) x xs h)))

-- ---- ranges

-- a range is one part of it behind the other
pub range_append : (a m k : ℕ) → range_with_len a (m + k) ≡ range_with_len a m ++ range_with_len (a + m) k
range_append a zero k =
    let e : zero + k ≡ k = omega arith in
    let f : a + zero ≡ a = omega arith in
    rw (e, f) refl
range_append a (suc m) k =
    let e : suc m + k ≡ suc (m + k) = omega arith in
    let f : a + suc m ≡ (a + 1) + m = omega arith in
    rw (e, f) (ap (λ l. a ∷ l) (range_append (a + 1) m k))

-- a range begins with its first number
pub range_step : (n s : ℕ) → s < n → range_with_len s (n - s) ≡ s ∷ range_with_len (s + 1) (n - (s + 1))
range_step n s h = let e : n - s ≡ suc (n - (s + 1)) = omega (arith, h) in rw e refl

-- ---- lists in order

-- the first element of a list in order is related to each other one
pub first_before : {A : Type 0} (R : A → A → Type 0) (x : A) (xs : List A) → AllPairs R (x ∷ xs)
    → All (R x) xs
first_before R x xs h k d within = h 0 (suc k) d (omega arith) (omega (arith, within))

-- and the rest is in order
pub rest_in_order : {A : Type 0} (R : A → A → Type 0) (x : A) (xs : List A) → AllPairs R (x ∷ xs)
    → AllPairs R xs
rest_in_order R x xs h i j d less within =
    h (suc i) (suc j) d (omega (arith, less)) (omega (arith, within))

-- two lists in order are in order behind one another, where each element of the first is related to
-- each of the second
pub pairs_append : {A : Type 0} (R : A → A → Type 0) (xs ys : List A) → AllPairs R xs → AllPairs R ys
    → All (λ x. All (R x) ys) xs → AllPairs R (xs ++ ys)
pairs_append R [] ys h k across = k
pairs_append R (x ∷ xs) ys h k across =
    AllPairs-cons R x (xs ++ ys) (All-append (R x) xs ys (first_before R x xs h)
    (All-head (λ x. All (R x) ys) x xs across)) (pairs_append R xs ys (rest_in_order R x xs h) k
    (All-tail (λ x. All (R x) ys) x xs across))

-- what one list has and what another has puts the one before the other
one_before_other : {A : Type 0} (R : A → A → Type 0) (P Q : A → Type 0) (xs ys : List A)
    → ((x y : A) → P x → Q y → R x y) → All P xs → All Q ys → All (λ x. All (R x) ys) xs
one_before_other R P Q xs ys before h k i d within j e inside = before _ _ (h i d within) (k j e inside)

-- what one list has is related to what all later ones have
before_later : {A : Type 0} (R : A → A → Type 0) (f : ℕ → List A) (P : ℕ → A → Type 0)
    → ((i : ℕ) → All (P i) (f i)) → ((i j : ℕ) (x y : A) → i < j → P i x → P j y → R x y)
    → (i a n : ℕ) → i < a → All (λ x. All (R x) (flat_map f (range_with_len a n))) (f i)
before_later R f P each before i a zero less k d within = All-nil (R (get_or (f i) k d))
before_later R f P each before i a (suc n) less k d within =
    All-append (R (get_or (f i) k d)) (f a) (flat_map f (range_with_len (a + 1) n))
    (one_before_other R (P i) (P a) (f i) (f a) (λ x y. before i a x y less) (each i) (each a) k d within)
    (before_later R f P each before i (a + 1) n (omega (arith, less)) k d within)

-- a block of lists, each in order, and each before the later ones
pub in_order : {A : Type 0} (R : A → A → Type 0) (f : ℕ → List A) (P : ℕ → A → Type 0)
    → ((i : ℕ) → AllPairs R (f i)) → ((i : ℕ) → All (P i) (f i))
    → ((i j : ℕ) (x y : A) → i < j → P i x → P j y → R x y) → (a n : ℕ)
    → AllPairs R (flat_map f (range_with_len a n))
in_order R f P one each before a zero = λ i j d less within. absurd (omega (arith, within))
in_order R f P one each before a (suc n) =
    pairs_append R (f a) (flat_map f (range_with_len (a + 1) n)) (one a)
    (in_order R f P one each before (a + 1) n) (before_later R f P each before a (a + 1) n
    (omega arith))

-- ---- lists of images, and elements

-- functions that agree at each element make equal lists
pub map_same : {A B : Type 0} (f g : A → B) (xs : List A) → All (λ x. f x ≡ g x) xs → map f xs ≡ map g xs
map_same f g [] h = refl
map_same f g (x ∷ xs) h =
    let first = All-head (λ x. f x ≡ g x) x xs h in
    let rest = map_same f g xs (All-tail (λ x. f x ≡ g x) x xs h) in
    cc

-- and so do images of images
pub map_map : {X A B : Type 0} (f : A → B) (h : X → A) (k : X → B) (xs : List X) → All (λ x. f (h x) ≡ k x) xs → map f (map h xs) ≡ map k xs
map_map f h k xs same = map-map f h xs ∙ map_same (λ x. f (h x)) k xs same

-- an element of the first of two lists stands in both of them, behind one another, at its place
pub slice_get-front : {A : Type 0} (xs ys : List A) (k : ℕ) (x : A) → slice_get xs k ≡ Some x → slice_get (xs ++ ys) k ≡ Some x
slice_get-front [] ys k x at = (cc)
slice_get-front (y ∷ xs) ys zero x at = at
slice_get-front (y ∷ xs) ys (suc k) x at = slice_get-front xs ys k x at

-- the fronts of two pairs are equal where each element in them is
pub same_front : (n : ℕ) (x y v w : List ℕ) → (0 < n → x ≡ v) → (1 < n → y ≡ w) → take n (x ∷ y ∷ []) ≡ take n (v ∷ w ∷ [])
same_front zero x y v w first second = refl
same_front (suc zero) x y v w first second = ap (λ l. l ∷ []) (first (omega arith))
same_front (suc (suc n)) x y v w first second =
    ap (λ l. l ∷ take (suc n) (y ∷ [])) (first (omega arith)) ∙ ap (λ l. v ∷ take (suc n) (l ∷ [])) (second (omega arith))

-- what is copied into a part of a list stands before what stood behind that part
pub copied_before : (bytes line : List ℕ) (start end : ℕ) → start ≤ end → end ≤ length line
    → drop start (put_mid start (end - start) line bytes) ≡ bytes ++ drop end line
copied_before bytes line start end before within =
    let whole : start + (end - start) ≡ end = omega arith in
    drop_at (take start line) (bytes ++ drop (end - start) (drop start line)) start (length-take-le start line (omega arith))
    ∙ ap (λ (rest : List ℕ). bytes ++ rest) (drop-drop (end - start) start line ∙ ap (λ (n : ℕ). drop n line) whole)

-- a test of bytes tells different ones apart
pub told_apart : (word other : List ℕ) → word ≢ other → bytes_eq word other ≡ false
told_apart word other apart = by (bytes_eq word other) refl
  where
    by : (b : Bool) → bytes_eq word other ≡ b → b ≡ false
    by true e = absurd (apart ((bytes_eq-Decides word other).0 e))
    by false e = refl

-- ---- sums

-- where each number is at least another, their sum is at least so many times that one
pub sum_by-least : {A : Type 0} (f : A → ℕ) (least : ℕ) (xs : List A) → All (λ x. least ≤ f x) xs → length xs * least ≤ sum_by f xs
sum_by-least f least [] all = omega arith
sum_by-least f least (x ∷ xs) all =
    let first = All-head (λ x. least ≤ f x) x xs all in
    let others = sum_by-least f least xs (All-tail (λ x. least ≤ f x) x xs all) in
    omega (arith, suc-mul (length xs) least, sum_by-cons f x xs, first, others)

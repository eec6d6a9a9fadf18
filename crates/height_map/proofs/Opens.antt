-- Which boxes have a column with no top, and what is drawn of those alone.
use Rattle.std.proofs.Common.{◌≡◌, ℕ, zero, suc, ◌+◌, ◌<◌, ◌≤◌, Bool, true, false, cond, List, [], ◌∷◌, zero-add, length, get_or, refl, sym, ap, ◌∙◌, arith, not}
use Rattle.std.specs.Prelude.{◌==◌, ◌&&◌}
use Rattle.std.specs.List.{All, count_by, filter, range_with_len, sum_by}
use Rattle.std.proofs.lemmas.Bool.{and_from, and_parts, eq-eqb, eqb-true, ne_eqb}
use Rattle.std.proofs.lemmas.List.Elements.{All-from_get_or, All-head, All-tail}
use Rattle.std.proofs.lemmas.List.Folds.{Any-from_list_any, list_any_at, list_any_none}
use Rattle.std.proofs.lemmas.List.FromFn.{get_or-range_with_len, length-range_with_len}
use Rattle.std.proofs.lemmas.List.Sums.{sum_by-cons}
use Rattle.live_clauses.specs.declared.step.Step.{Step}
use Rattle.view_places.specs.Boxes.{Indices}
use Rattle.view_places.specs.Window.{Window}
use Rattle.height_map.specs.Beside.{LieBeside, beside_top}
use Rattle.height_map.specs.Columns.{HasOpen, covers, has_open, leaf_top}

-- the test of one column
abbrev is_none : ℕ → List ℕ → Indices → ℕ → Bool
is_none w tops b p = covers w b p && get_or tops p 0 == 0

-- a box that has an open column has one by the test
pub open-told : (w : ℕ) (b : Indices) (tops : List ℕ) → HasOpen w b tops → has_open w tops b ≡ true
open-told w b tops open' =
    let p = open'.place in
    let within : p < length (range_with_len 0 (length tops)) = omega (arith, open'.within, length-range_with_len 0 (length tops)) in
    list_any_at (is_none w tops b) (range_with_len 0 (length tops)) p 0 within
    (ap (is_none w tops b) (get_or-range_with_len 0 (length tops) p 0 open'.within ∙ zero-add p)
    ∙ and_from (covers w b p) (get_or tops p 0 == 0) open'.covered (eq-eqb (get_or tops p 0) 0 open'.none))

-- and one that is covered has none
pub covered-told : (w : ℕ) (b : Indices) (tops : List ℕ) → ((p : ℕ) → p < length tops → covers w b p ≡ true → 0 < get_or tops p 0) → has_open w tops b ≡ false
covered-told w b tops covered =
    list_any_none (is_none w tops b) all
    (All-from_get_or (λ p. is_none w tops b p ≡ false) all 0
    (λ i h.
    let there : i < length tops = omega (arith, h, length-range_with_len 0 (length tops)) in
    ap (is_none w tops b) (get_or-range_with_len 0 (length tops) i 0 there ∙ zero-add i) ∙ by i there (covers w b i) refl))
  where
    all : List ℕ
    all = range_with_len 0 (length tops)

    by : (p : ℕ) → p < length tops → (t : Bool) → covers w b p ≡ t → is_none w tops b p ≡ false
    by p h true e = let some = covered p h e in ap (λ t. t && get_or tops p 0 == 0) e ∙ ne_eqb (get_or tops p 0) 0 (λ none. omega (arith, some, none))
    by p h false e = ap (λ t. t && get_or tops p 0 == 0) e

-- the test tells of such a column
pub told-open : (w : ℕ) (b : Indices) (tops : List ℕ) → has_open w tops b ≡ true → HasOpen w b tops
told-open w b tops e =
    let any = Any-from_list_any (is_none w tops b) (range_with_len 0 (length tops)) e in
    let k = any.0 in
    let there : k < length tops = omega (arith, any.2, length-range_with_len 0 (length tops)) in
    let is : any.1 ≡ k = sym any.3 ∙ get_or-range_with_len 0 (length tops) k any.1 there ∙ zero-add k in
    let parts = and_parts (covers w b k) (get_or tops k 0 == 0) (ap (is_none w tops b) (sym is) ∙ any.4) in
    record { place = k; within = there; covered = parts.0; none = eqb-true (get_or tops k 0) 0 parts.1 }

-- and that there is none
pub told-covered : (w : ℕ) (b : Indices) (tops : List ℕ) → has_open w tops b ≡ false → (p : ℕ) → p < length tops → covers w b p ≡ true → 0 < get_or tops p 0
told-covered w b tops e p within covered = by (get_or tops p 0) refl
  where
    by : (n : ℕ) → get_or tops p 0 ≡ n → 0 < n
    by zero none =
        let both : true ≡ false = sym (open-told w b tops (record { place = p; within = within; covered = covered; none = none })) ∙ e in
        absurd (omega (arith, ap (λ t. cond {A = ℕ} t 1 0) both))
    by (suc n) some = omega arith

-- ---- the boxes that pass a test

-- so a test that tells of each column whether all have a top tells whether one has none
pub open-is : (covered : Bool) (w : ℕ) (b : Indices) (tops : List ℕ) → ((p : ℕ) → covered ≡ true → p < length tops → covers w b p ≡ true → 0 < get_or tops p 0)
    → (covered ≡ false → HasOpen w b tops) → not covered ≡ has_open w tops b
open-is true w b tops all some = sym (covered-told w b tops (λ p within e. all p refl within e))
open-is false w b tops all some = sym (open-told w b tops (some refl))

-- a sum over all of them, where the others add nothing
pub sum-kept : {X : Type 0} (f : X → ℕ) (test : X → Bool) (xs : List X) → All (λ x. test x ≡ false → f x ≡ 0) xs → sum_by f (filter test xs) ≡ sum_by f xs
sum-kept f test [] none = refl
sum-kept {X = X} f test (x ∷ xs) none = by (test x) (All-head P x xs none) (sum-kept f test xs (All-tail P x xs none)) ∙ sym (sum_by-cons f x xs)
  where
    P : X → Type 0
    P y = test y ≡ false → f y ≡ 0

    by : (t : Bool) → (t ≡ false → f x ≡ 0) → sum_by f (filter test xs) ≡ sum_by f xs → sum_by f (cond t (x ∷ filter test xs) (filter test xs)) ≡ f x + sum_by f xs
    by true free rest = sum_by-cons f x (filter test xs) ∙ ap (λ n. f x + n) rest
    by false free rest = omega (arith, rest, free refl)

-- and where they add what they add
pub sum-kept_below : {X : Type 0} (f : X → ℕ) (test : X → Bool) (xs : List X) → sum_by f (filter test xs) ≤ sum_by f xs
sum-kept_below f test [] = omega arith
sum-kept_below f test (x ∷ xs) = by (test x) (sum-kept_below f test xs)
  where
    by : (t : Bool) → sum_by f (filter test xs) ≤ sum_by f xs → sum_by f (cond t (x ∷ filter test xs) (filter test xs)) ≤ sum_by f (x ∷ xs)
    by true rest = omega (arith, rest, sum_by-cons f x xs, sum_by-cons f x (filter test xs))
    by false rest = omega (arith, rest, sum_by-cons f x xs)

pub kept-beside : (w : ℕ) (test : Indices → Bool) (boxes : List Indices) → LieBeside w boxes → LieBeside w (filter test boxes)
kept-beside w test boxes apart p = omega (arith, sum-kept_below (λ b. cond (covers w b p) 1 0) test boxes, apart p)

-- boxes beside one that has a column do not have it
pub rest-beside : (w : ℕ) (b : Indices) (bs : List Indices) → LieBeside w (b ∷ bs) → LieBeside w bs
rest-beside w b bs apart p = omega (arith, sum_by-cons (λ c. cond {A = ℕ} (covers w c p) 1 0) b bs, apart p)

pub rest-none : (w p : ℕ) (b : Indices) (bs : List Indices) → LieBeside w (b ∷ bs) → covers w b p ≡ true → count_by (λ c. covers w c p) bs ≡ 0
rest-none w p b bs apart e =
    omega (arith, sum_by-cons (λ c. cond {A = ℕ} (covers w c p) 1 0) b bs, apart p, ap (λ t. cond {A = ℕ} t 1 0) e)

-- and give it no top
pub untouched : (view : Window) (list : List Step) (p old : ℕ) (bs : List Indices) → count_by (λ c. covers view.w c p) bs ≡ 0 → beside_top view list bs p old ≡ old
untouched view list p old [] none = refl
untouched view list p old (b ∷ bs) none = by (covers view.w b p) refl (λ less. untouched view list p old bs less)
  where
    whole : cond {A = ℕ} (covers view.w b p) 1 0 + count_by (λ c. covers view.w c p) bs ≡ 0
    whole = sym (sum_by-cons (λ c. cond {A = ℕ} (covers view.w c p) 1 0) b bs) ∙ none

    by : (t : Bool) → covers view.w b p ≡ t → (count_by (λ c. covers view.w c p) bs ≡ 0 → beside_top view list bs p old ≡ old)
        → cond t (leaf_top view list b p old) (beside_top view list bs p old) ≡ old
    by true e below = absurd (omega (arith, whole, ap (λ t. cond {A = ℕ} t 1 0) e))
    by false e below = below (omega (arith, whole))

-- what boxes give whose columns all have tops is nothing
pub kept-top : (view : Window) (list : List Step) (test : Indices → Bool) (p old : ℕ) (boxes : List Indices)
    → All (λ b. test b ≡ false → covers view.w b p ≡ true → leaf_top view list b p old ≡ old) boxes → LieBeside view.w boxes
    → beside_top view list (filter test boxes) p old ≡ beside_top view list boxes p old
kept-top view list test p old [] none apart = refl
kept-top view list test p old (b ∷ bs) none apart =
    by (test b) (covers view.w b p) refl (All-head P b bs none) (kept-top view list test p old bs (All-tail P b bs none) (rest-beside view.w b bs apart))
  where
    P : Indices → Type 0
    P c = test c ≡ false → covers view.w c p ≡ true → leaf_top view list c p old ≡ old

    top : List Indices → ℕ
    top cs = beside_top view list cs p old

    by : (s t : Bool) → covers view.w b p ≡ t → (s ≡ false → t ≡ true → leaf_top view list b p old ≡ old) → top (filter test bs) ≡ top bs
        → top (cond s (b ∷ filter test bs) (filter test bs)) ≡ cond t (leaf_top view list b p old) (top bs)
    by true true e kept rest = ap (λ u. cond u (leaf_top view list b p old) (top (filter test bs))) e
    by true false e kept rest = ap (λ u. cond u (leaf_top view list b p old) (top (filter test bs))) e ∙ rest
    by false true e kept rest = rest ∙ untouched view list p old bs (rest-none view.w p b bs apart e) ∙ sym (kept refl refl)
    by false false e kept rest = rest

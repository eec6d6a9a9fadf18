-- How leaves are drawn layer by layer.
use Rattle.std.proofs.Common.{mul-zero, zero-add, ◌≡◌, ℕ, zero, suc, ◌+◌, ◌-◌, ◌*◌, ◌/◌, ◌%◌, ◌<◌, ◌≤◌, Bool, true, false, cond, append-nil, append_assoc, List, [], ◌∷◌, ◌++◌, length, get_or, map, refl, sym, ap, subst, ◌∙◌, ◌⊎◌, inl, inr, arith, drop, set}
use Rattle.std.specs.Prelude.{nat_le, nat_lt, ◌==◌, ◌&&◌, ◌||◌}
use Rattle.std.specs.List.{All, filter, flat_map, list_any, range_with_len, refill, sum_by}
use Rattle.std.proofs.lemmas.Bool.{cases_lt, eq-eqb, eqb-true, false≢true, le-leb, ne_eqb}
use Rattle.std.proofs.lemmas.Bool.Decides.{nat_tests}
use Rattle.std.proofs.lemmas.List.{get_or_past, length-set, take-append-le, take_all}
use Rattle.std.proofs.lemmas.List.Elements.{All-append, All-map, All-nil, All-push}
use Rattle.std.proofs.lemmas.List.Filters.{FiltersInPlace, FiltersInPlace-more_no, FiltersInPlace-more_set}
use Rattle.std.proofs.lemmas.List.Folds.{list_any-append}
use Rattle.std.proofs.lemmas.List.FromFn.{map-range_with_len_more}
use Rattle.std.proofs.lemmas.List.Sums.{sum_by-append, sum_by-cons}
use Rattle.std.proofs.lemmas.Map.Views.{any-filter_same}
use Rattle.std.proofs.lemmas.Nat.{div-mul-add, mod-mul-add}
use Rattle.box_chains.specs.Sums.{LiesIn, Sample, size, sum_along, sum_in}
use Rattle.box_chains.specs.Laws.{Lawful}
use Rattle.fixed_ops.specs.Counts.{Counts, RisesBy, points_of}
use Rattle.live_clauses.specs.declared.step.Step.{Step}
use Rattle.view_places.specs.Boxes.{Indices, IsBox}
use Rattle.view_places.specs.Spans.{IsInRoot}
use Rattle.view_places.specs.declared.lattice.Lattice.TheVariants.{Height}
use Rattle.view_places.specs.Window.{Window}
use Rattle.height_map.specs.Columns.{Changes, IsAmong, covers, is_open, leaf_cost, leaf_top, lifted}
use Rattle.height_map.specs.Layers.{IsColumn, columns_in, columns_of, layer_of, layer_top, open_among, stand_at}
use Rattle.height_map.specs.Tops.{inside, top_among}
use Rattle.height_map.specs.declared.column.Column.{Column}
use Rattle.height_map.proofs.ChangeLaws.{Changes-none, covers-place, lifted-none, place-is, place-within}
use Rattle.height_map.proofs.TopLaws.{best, best-empty, best-le, best-one, lifted-nothing, lifted-twice, open-same}

-- a sum of one number
pub along-one : (j : ℕ) (f : ℕ → ℕ) → sum_along j (j + 1) f ≡ f j
along-one j f = let count : j + 1 - j ≡ 1 = omega arith in rw count (zero-add (f j))

-- no sample adds anything
pub sum-nothing : (laws : Lawful) (b : Indices) (g : Sample → ℕ) → ((s : Sample) → LiesIn b s → g s ≡ 0) → sum_in b g ≡ 0
sum-nothing laws b g none = laws.sums.same b g (λ s. 0) none ∙ laws.sums.const b 0 ∙ mul-zero (size b)

-- how many elements pass, each taken so many times
passing : {X : Type 0} (test : X → Bool) (n : ℕ) (xs : List X) → length (filter test xs) * n ≡ sum_by (λ x. cond (test x) n 0) xs
passing test n [] = omega arith
passing {X = X} test n (x ∷ xs) = by (test x) (filter test xs) (passing test n xs) ∙ sym (sum_by-cons (λ y. cond (test y) n 0) x xs)
  where
    by : (t : Bool) (others : List X) → length others * n ≡ sum_by (λ y. cond (test y) n 0) xs → length (cond t (x ∷ others) others) * n ≡ cond t n 0 + sum_by (λ y. cond (test y) n 0) xs
    by true others rest = let once : suc (length others) * n ≡ length others * n + n = grind arith in omega (arith, once, rest)
    by false others rest = omega (arith, rest)

-- sums over what each element of a list gives
sum-flat : {X Y : Type 0} (f : Y → ℕ) (g : X → List Y) (xs : List X) → sum_by f (flat_map g xs) ≡ sum_by (λ x. sum_by f (g x)) xs
sum-flat f g [] = refl
sum-flat f g (x ∷ xs) = omega (arith, sum_by-append f (g x) (flat_map g xs), sum_by-cons (λ y. sum_by f (g y)) x xs, sum-flat f g xs)

sum-map : {X Y : Type 0} (f : Y → ℕ) (g : X → Y) (xs : List X) → sum_by f (map g xs) ≡ sum_by (λ x. f (g x)) xs
sum-map f g [] = refl
sum-map f g (x ∷ xs) = omega (arith, sum_by-cons f (g x) (map g xs), sum_by-cons (λ y. f (g y)) x xs, sum-map f g xs)

-- the evaluations of a layer are those of the columns that have no top
pub layer-cost : (laws : Lawful) (view : Window) (list : List Step) (b : Indices) (tops : List ℕ) (w k : ℕ) → w ≡ view.w
    → length (open_among tops (columns_of w b)) * length list ≡ sum_in (layer_of b k) (leaf_cost view list (layer_of b k) tops)
layer-cost laws view list b tops w k width =
    passing (λ (column : Column). get_or tops column.place 0 == 0) (length list) (columns_of w b)
    ∙ sum-flat cost (columns_in w b) (range_with_len b.y0 (b.y1 - b.y0))
    ∙ laws.axes.same b.y0 b.y1 (λ j. sum_by cost (columns_in w b j)) row
    (λ j yl yh. sum-map cost (λ i. record { i = i; j = j; place = j * w + i }) (range_with_len b.x0 (b.x1 - b.x0))
    ∙ laws.axes.same b.x0 b.x1 (λ i. cost (record { i = i; j = j; place = j * w + i })) (λ i. leaf_cost view list (layer_of b k) tops (record { i = i; j = j; k = k }))
    (λ i xl xh. sample i j))
    ∙ sym (along-one k (λ m. sum_along b.y0 b.y1 (λ j. sum_along b.x0 b.x1 (λ i. leaf_cost view list (layer_of b k) tops (record { i = i; j = j; k = m })))))
  where
    cost : Column → ℕ
    cost column = cond (get_or tops column.place 0 == 0) (length list) 0

    row : ℕ → ℕ
    row j = sum_along b.x0 b.x1 (λ i. leaf_cost view list (layer_of b k) tops (record { i = i; j = j; k = k }))

    and-true : (t : Bool) → t ≡ (t && true)
    and-true true = refl
    and-true false = refl

    sample : (i j : ℕ) → cond {A = ℕ} (get_or tops (j * w + i) 0 == 0) (length list) 0 ≡ leaf_cost view list (layer_of b k) tops (record { i = i; j = j; k = k })
    sample i j =
        ap (λ n. cond {A = ℕ} (get_or tops (j * n + i) 0 == 0) (length list) 0) width
        ∙ ap (λ t. cond {A = ℕ} t (length list) 0) (and-true (get_or tops (j * view.w + i) 0 == 0)
        ∙ ap (λ t. get_or tops (j * view.w + i) 0 == 0 && t) (sym (le-leb (top_among view list k (k + 1) i j) (k + 1) (best-le (inside view list i j) k (k + 1) (omega arith)))))

-- a test of what each element of a list gives
any-flat : {X Y : Type 0} (test : Y → Bool) (g : X → List Y) (xs : List X) → list_any test (flat_map g xs) ≡ list_any (λ x. list_any test (g x)) xs
any-flat test g [] = refl
any-flat test g (x ∷ xs) = list_any-append test (g x) (flat_map g xs) ∙ ap (λ t. list_any test (g x) || t) (any-flat test g xs)

any-map : {X Y : Type 0} (test : Y → Bool) (g : X → Y) (xs : List X) → list_any test (map g xs) ≡ list_any (λ x. test (g x)) xs
any-map test g [] = refl
any-map test g (x ∷ xs) = ap (λ t. test (g x) || t) (any-map test g xs)

any-same : (f g : ℕ → Bool) (low n : ℕ) → ((i : ℕ) → low ≤ i → i < low + n → f i ≡ g i) → list_any f (range_with_len low n) ≡ list_any g (range_with_len low n)
any-same f g low zero same = refl
any-same f g low (suc n) same =
    ap (λ t. t || list_any f (range_with_len (low + 1) n)) (same low (omega arith) (omega arith))
    ∙ ap (λ t. g low || t) (any-same f g (low + 1) n (λ i l h. same i (omega (arith, l)) (omega (arith, h))))

any-and : (t : Bool) (f : ℕ → Bool) (is : List ℕ) → list_any (λ i. f i && t) is ≡ (list_any f is && t)
any-and t f [] = refl
any-and t f (i ∷ is) = ap (λ u. f i && t || u) (any-and t f is) ∙ by (f i) t
  where
    by : (s t : Bool) → (s && t || list_any f is && t) ≡ ((s || list_any f is) && t)
    by true true = refl
    by true false = other (list_any f is)
      where
        other : (u : Bool) → (u && false) ≡ false
        other true = refl
        other false = refl
    by false t = refl

any-range : (v low n : ℕ) → list_any (λ i. v == i) (range_with_len low n) ≡ (nat_le low v && nat_lt v (low + n))
any-range v low zero = grind (arith, nat_tests)
any-range v low (suc n) = ap (λ t. v == low || t) (any-range v (low + 1) n) ∙ grind (arith, nat_tests)

any-along : (v low high : ℕ) → low ≤ high → list_any (λ i. v == i) (range_with_len low (high - low)) ≡ (nat_le low v && nat_lt v high)
any-along v low high order = any-range v low (high - low) ∙ ap (λ n. nat_le low v && nat_lt v n) (omega (arith, order))

-- the columns of a box stand where it has columns
pub stand-covers : (w : ℕ) (b : Indices) (p : ℕ) → IsBox b → b.x1 ≤ w → stand_at (columns_of w b) p ≡ covers w b p
stand-covers w b p is narrow =
    any-flat test (columns_in w b) (range_with_len b.y0 (b.y1 - b.y0))
    ∙ any-same (λ j. list_any test (columns_in w b j)) (λ j. p / w == j && columns) b.y0 (b.y1 - b.y0) (λ j l h. row j)
    ∙ any-and columns (λ j. p / w == j) (range_with_len b.y0 (b.y1 - b.y0))
    ∙ ap (λ t. t && columns) (any-along (p / w) b.y0 b.y1 (omega (arith, is.y)))
    ∙ turned (nat_le b.x0 (p % w)) (nat_lt (p % w) b.x1) (nat_le b.y0 (p / w)) (nat_lt (p / w) b.y1)
  where
    test : Column → Bool
    test column = p == column.place

    columns : Bool
    columns = nat_le b.x0 (p % w) && nat_lt (p % w) b.x1

    swapped : (s t : Bool) → (s && t) ≡ (t && s)
    swapped true true = refl
    swapped true false = refl
    swapped false true = refl
    swapped false false = refl

    row : (j : ℕ) → list_any test (columns_in w b j) ≡ (p / w == j && columns)
    row j =
        any-map test (λ i. record { i = i; j = j; place = j * w + i }) (range_with_len b.x0 (b.x1 - b.x0))
        ∙ any-same (λ i. p == j * w + i) (λ i. p % w == i && p / w == j) b.x0 (b.x1 - b.x0)
        (λ i l h. place-is w i j p (omega (arith, h, is.x, narrow)) ∙ swapped (p / w == j) (p % w == i))
        ∙ any-and (p / w == j) (λ i. p % w == i) (range_with_len b.x0 (b.x1 - b.x0))
        ∙ ap (λ t. t && p / w == j) (any-along (p % w) b.x0 b.x1 (omega (arith, is.x)))
        ∙ swapped columns (p / w == j)

    turned : (s t u v : Bool) → ((u && v) && (s && t)) ≡ (s && (t && (u && v)))
    turned true true u v = swapped (u && v) true
    turned true false u v = swapped (u && v) false
    turned false t u v = swapped (u && v) false

-- those that have no top stand where it has one that has none
pub stand-open : (tops : List ℕ) (columns : List Column) (p : ℕ) → stand_at (open_among tops columns) p ≡ (get_or tops p 0 == 0 && stand_at columns p)
stand-open tops columns p =
    any-filter_same (λ (column : Column). p == column.place) (λ (column : Column). get_or tops column.place 0 == 0) (get_or tops p 0 == 0)
    (λ column e. ap (λ q. get_or tops q 0 == 0) (sym (eqb-true p column.place e))) columns

-- one more column of a row, and one more row
pub column-more : (w i j low : ℕ) (b : Indices) (columns old new : List Column) → b.x0 ≡ low → low ≤ i → old ≡ columns ++ columns_in w (record b { x1 = i }) j
    → new ≡ old ++ record { i = i; j = j; place = j * w + i } ∷ [] → new ≡ columns ++ columns_in w (record b { x1 = i + 1 }) j
column-more w i j low b columns old new first above before pushed =
    let f : ℕ → Column = λ i. record { i = i; j = j; place = j * w + i } in
    let count : (i - b.x0) + 1 ≡ i + 1 - b.x0 = omega (arith, first, above) in
    let last : b.x0 + (i - b.x0) ≡ i = omega (arith, first, above) in
    pushed ∙ ap (λ l. l ++ f i ∷ []) before ∙ append_assoc columns (columns_in w (record b { x1 = i }) j) (f i ∷ [])
    ∙ ap (λ l. columns ++ l) (sym (map-range_with_len_more f b.x0 (i - b.x0) i last))
    ∙ ap (λ n. columns ++ map f (range_with_len b.x0 n)) count

rows-more : (g : ℕ → List Column) (low n : ℕ) → flat_map g (range_with_len low (suc n)) ≡ flat_map g (range_with_len low n) ++ g (low + n)
rows-more g low zero = append-nil (g low) ∙ ap g (omega arith)
rows-more g low (suc n) =
    let last : low + 1 + n ≡ low + suc n = omega arith in
    let front = flat_map g (range_with_len (low + 1) n) in
    ap (λ l. g low ++ l) (rows-more g (low + 1) n) ∙ sym (append_assoc (g low) front (g (low + 1 + n))) ∙ ap (λ m. (g low ++ front) ++ g m) last

pub row-more : (w j : ℕ) (b : Indices) (old new : List Column) → b.y0 ≤ j → old ≡ columns_of w (record b { y1 = j }) → new ≡ old ++ columns_in w b j
    → new ≡ columns_of w (record b { y1 = j + 1 })
row-more w j b old new above before pushed =
    let count : suc (j - b.y0) ≡ j + 1 - b.y0 = omega (arith, above) in
    let last : b.y0 + (j - b.y0) ≡ j = omega (arith, above) in
    pushed ∙ ap (λ l. l ++ columns_in w b j) before ∙ ap (λ m. columns_of w (record b { y1 = j }) ++ columns_in w b m) (sym last)
    ∙ sym (rows-more (columns_in w b) b.y0 (j - b.y0)) ∙ ap (λ n. flat_map (columns_in w b) (range_with_len b.y0 n)) count

-- the columns of a box are those of the height map
all-flat : (P : Column → Type 0) (g : ℕ → List Column) (low n : ℕ) → ((j : ℕ) → low ≤ j → j < low + n → All P (g j)) → All P (flat_map g (range_with_len low n))
all-flat P g low zero each = All-nil P
all-flat P g low (suc n) each =
    All-append P (g low) (flat_map g (range_with_len (low + 1) n)) (each low (omega arith) (omega arith))
    (all-flat P g (low + 1) n (λ j l h. each j (omega (arith, l)) (omega (arith, h))))

all-along : (P : ℕ → Type 0) (low n : ℕ) → ((i : ℕ) → low ≤ i → i < low + n → P i) → All P (range_with_len low n)
all-along P low zero each = All-nil P
all-along P low (suc n) each =
    All-append P (low ∷ []) (range_with_len (low + 1) n) (All-push P [] low (All-nil P) (each low (omega arith) (omega arith)))
    (all-along P (low + 1) n (λ i l h. each i (omega (arith, l)) (omega (arith, h))))

pub columns-there : (view : Window) (b : Indices) (w len : ℕ) → w ≡ view.w → IsBox b → IsInRoot view Height b → IsAmong w len b → All (IsColumn view len) (columns_of w b)
columns-there view b w len width is within among =
    all-flat (IsColumn view len) (columns_in w b) b.y0 (b.y1 - b.y0)
    (λ j yl yh. All-map (IsColumn view len) (λ i. record { i = i; j = j; place = j * w + i }) (range_with_len b.x0 (b.x1 - b.x0))
    (all-along (λ i. IsColumn view len (record { i = i; j = j; place = j * w + i })) b.x0 (b.x1 - b.x0)
    (λ i xl xh. record {
      narrow = omega (arith, xh, is.x, within.x);
      low = omega (arith, yh, is.y, within.y);
      place = ap (λ n. j * n + i) width;
      there = place-within w len i j b among (omega (arith, xh, is.x)) (omega (arith, yh, is.y));
    })))

-- a column that has a top keeps one
closed-stays : (view : Window) (list : List Step) (k p : ℕ) (c : ℕ → Bool) (old new : List ℕ) → Changes c (layer_top view list k) old new → get_or new p 0 ≡ 0 → get_or old p 0 ≡ 0
closed-stays view list k p c old new changed none = by (cases_lt p (length old))
  where
    either : (s t : Bool) (n : ℕ) → cond s (cond t (k + 1) n) n ≡ 0 → n ≡ 0
    either true true n e = absurd (omega (arith, e))
    either true false n e = e
    either false t n e = e

    by : (p < length old) ⊎ (length old ≤ p) → get_or old p 0 ≡ 0
    by (inl within) = either (c p) (inside view list (p % view.w) (p / view.w) k) (get_or old p 0) (sym (changed.each p within) ∙ none)
    by (inr beyond) = get_or_past old p 0 beyond

-- what a test keeps of what another one keeps that it implies
kept-twice : {X : Type 0} (p q : X → Bool) → ((x : X) → q x ≡ true → p x ≡ true) → (xs : List X) → filter q (filter p xs) ≡ filter q xs
kept-twice p q implied [] = refl
kept-twice {X = X} p q implied (x ∷ xs) = by (p x) (q x) refl refl (filter p xs) (kept-twice p q implied xs)
  where
    by : (s t : Bool) → p x ≡ s → q x ≡ t → (kept : List X) → filter q kept ≡ filter q xs → filter q (cond s (x ∷ kept) kept) ≡ cond t (x ∷ filter q xs) (filter q xs)
    by true t e f kept same = ap (λ u. cond u (x ∷ filter q kept) (filter q kept)) f ∙ ap (λ l. cond t (x ∷ l) l) same
    by false false e f kept same = same
    by false true e f kept same = absurd (false≢true (sym e ∙ implied x f))

-- so those columns that had none are enough to look for those that have none
pub open-still : (view : Window) (list : List Step) (k : ℕ) (c : ℕ → Bool) (columns all : List Column) (old new : List ℕ) → Changes c (layer_top view list k) old new
    → columns ≡ open_among old all → open_among new columns ≡ open_among new all
open-still view list k c columns all old new changed is =
    ap (open_among new) is
    ∙ kept-twice (λ (column : Column). get_or old column.place 0 == 0) (λ (column : Column). get_or new column.place 0 == 0)
    (λ column e. eq-eqb (get_or old column.place 0) 0 (closed-stays view list k column.place c old new changed (eqb-true (get_or new column.place 0) 0 e))) all

-- a layer of the columns of a leaf that have no top is drawn as one of all of them is
pub layer-changed : (view : Window) (list : List Step) (b : Indices) (w k : ℕ) (columns : List Column) (old new : List ℕ) → IsBox b → b.x1 ≤ w → columns ≡ open_among old (columns_of w b)
    → Changes (stand_at columns) (layer_top view list k) old new → Changes (covers w b) (leaf_top view list (layer_of b k)) old new
layer-changed view list b w k columns old new is narrow all changed = record {
  same = changed.same;
  each = λ p h. changed.each p h ∙ ap (λ t. cond t (layer_top view list k p (get_or old p 0)) (get_or old p 0)) (stands p)
      ∙ by (inside view list (p % view.w) (p / view.w)) (covers w b p) (get_or old p 0);
}
  where
    stands : (p : ℕ) → stand_at columns p ≡ (get_or old p 0 == 0 && covers w b p)
    stands p = ap (λ l. stand_at l p) all ∙ stand-open old (columns_of w b) p ∙ ap (λ t. get_or old p 0 == 0 && t) (stand-covers w b p is narrow)

    and-false : (t : Bool) → (t && false) ≡ false
    and-false true = refl
    and-false false = refl

    by : (f : ℕ → Bool) (t : Bool) (n : ℕ) → cond (n == 0 && t) (cond (f k) (k + 1) n) n ≡ cond t (lifted (best f k (k + 1)) n) n
    by f true zero = sym (best-one f k) ∙ sym (lifted-none (best f k (k + 1)) 0 refl)
    by f true (suc n) = rw (ne_eqb (suc n) 0 (λ e. omega (arith, e))) refl
    by f false n = ap (λ t. cond t (cond (f k) (k + 1) n) n) (and-false (n == 0))

-- one more layer
pub deeper : (view : Window) (list : List Step) (b : Indices) (w k : ℕ) (xs ys zs : List ℕ) → k < b.z1
    → Changes (covers w b) (leaf_top view list (record b { z0 = k + 1 })) xs ys → Changes (covers w b) (leaf_top view list (layer_of b k)) ys zs
    → Changes (covers w b) (leaf_top view list (record b { z0 = k })) xs zs
deeper view list b w k xs ys zs below first second = record {
  same = second.same ∙ first.same;
  each = λ p h.
      second.each p (omega (arith, h, first.same))
      ∙ ap (λ old. cond (covers w b p) (leaf_top view list (layer_of b k) p old) old) (first.each p h)
      ∙ by (inside view list (p % view.w) (p / view.w)) (covers w b p) (get_or xs p 0);
}
  where
    by : (f : ℕ → Bool) (t : Bool) (n : ℕ) → cond t (lifted (best f k (k + 1)) (cond t (lifted (best f (k + 1) b.z1) n) n)) (cond t (lifted (best f (k + 1) b.z1) n) n) ≡ cond t (lifted (best f k b.z1) n) n
    by f true n = lifted-twice f k (k + 1) b.z1 n (omega arith) (omega (arith, below))
    by f false n = refl

-- what it takes
layer-same : (laws : Lawful) (view : Window) (list : List Step) (b : Indices) (w k len : ℕ) (xs ys : List ℕ) → w ≡ view.w → IsAmong w len b → length xs ≡ len → b.z0 ≤ k → k < b.z1
    → Changes (covers w b) (leaf_top view list (record b { z0 = k + 1 })) xs ys
    → sum_in (layer_of b k) (leaf_cost view list (layer_of b k) ys) ≡ sum_in (layer_of b k) (leaf_cost view list b xs)
layer-same laws view list b w k len xs ys width among there above below changed =
    laws.sums.same (layer_of b k) (leaf_cost view list (layer_of b k) ys) (leaf_cost view list b xs) (λ s lies. ap (λ t. cond {A = ℕ} t (length list) 0) (sample s lies))
  where
    sample : (s : Sample) → LiesIn (layer_of b k) s → is_open view list (layer_of b k) ys s ≡ is_open view list b xs s
    sample s lies =
        let p = s.j * view.w + s.i in
        let narrow : s.i < view.w = omega (arith, lies.x, among.columns, width) in
        let here : covers w b p ≡ true = ap (λ n. covers n b p) width ∙ covers-place view.w s.i s.j b narrow lies.x.0 lies.x.1 lies.y.0 lies.y.1 in
        let within : s.j * view.w + s.i < length xs = subst (λ n. s.j * n + s.i < length xs) width (omega (arith, place-within w len s.i s.j b among lies.x.1 lies.y.1, there)) in
        let drawn : get_or ys p 0 ≡ lifted (best (inside view list s.i s.j) (k + 1) b.z1) (get_or xs p 0) =
        changed.each p within
        ∙ ap (λ t. cond t (leaf_top view list (record b { z0 = k + 1 }) p (get_or xs p 0)) (get_or xs p 0)) here
        ∙ ap (λ n. lifted (top_among view list (k + 1) b.z1 n (p / view.w)) (get_or xs p 0)) (mod-mul-add s.j view.w s.i narrow)
        ∙ ap (λ n. lifted (top_among view list (k + 1) b.z1 s.i n) (get_or xs p 0)) (div-mul-add s.j view.w s.i narrow) in
        open-same (inside view list s.i s.j) b.z0 k (k + 1) b.z1 s.k (get_or xs p 0) (get_or ys p 0) above (omega arith) (omega (arith, below)) lies.z.0 lies.z.1 drawn

pub deeper-counted : (laws : Lawful) (view : Window) (list : List Step) (b : Indices) (w k len : ℕ) (columns : List Column) (xs ys : List ℕ) (before mid after : Counts)
    → w ≡ view.w → IsAmong w len b → length xs ≡ len → b.z0 ≤ k → k < b.z1 → columns ≡ open_among ys (columns_of w b)
    → Changes (covers w b) (leaf_top view list (record b { z0 = k + 1 })) xs ys
    → RisesBy before mid (points_of (sum_in (record b { z0 = k + 1 }) (leaf_cost view list b xs))) → RisesBy mid after (points_of (length columns * length list))
    → RisesBy before after (points_of (sum_in (record b { z0 = k }) (leaf_cost view list b xs)))
deeper-counted laws view list b w k len columns xs ys before mid after width among there above below all changed first second =
    let nearer = sum_in (record b { z0 = k + 1 }) (leaf_cost view list b xs) in
    let layer = length columns * length list in
    let cost : length columns * length list ≡ sum_in (layer_of b k) (leaf_cost view list b xs) =
    ap (λ l. length l * length list) all ∙ layer-cost laws view list b ys w k width ∙ layer-same laws view list b w k len xs ys width among there above below changed in
    let parts = laws.axes.parts k (k + 1) b.z1 (λ k. sum_along b.y0 b.y1 (λ j. sum_along b.x0 b.x1 (λ i. leaf_cost view list b xs (record { i = i; j = j; k = k })))) (omega arith) (omega (arith, below)) in
    subst (λ n. RisesBy before after (points_of n)) (omega (arith, parts, cost)) (laws.tallies.sum before mid after (points_of nearer) (points_of layer) first second)

-- before any layer is drawn nothing has changed, and nothing is counted
pub none-drawn : (view : Window) (list : List Step) (b : Indices) (w high : ℕ) (tops : List ℕ) → high ≡ b.z1 → Changes (covers w b) (leaf_top view list (record b { z0 = high })) tops tops
none-drawn view list b w high tops all =
    Changes-none (covers w b) (leaf_top view list (record b { z0 = high })) tops
    (λ p h e. ap (λ k. lifted (top_among view list k b.z1 (p % view.w) (p / view.w)) (get_or tops p 0)) all
    ∙ ap (λ m. lifted m (get_or tops p 0)) (best-empty (inside view list (p % view.w) (p / view.w)) b.z1) ∙ lifted-nothing (get_or tops p 0))

pub none-counted : (laws : Lawful) (b : Indices) (high : ℕ) (g : Sample → ℕ) (counts : Counts) → high ≡ b.z1 → RisesBy counts counts (points_of (sum_in (record b { z0 = high }) g))
none-counted laws b high g counts all =
    subst (λ n. RisesBy counts counts (points_of n)) (sym (sum-nothing laws (record b { z0 = high }) g (λ s lies. absurd (omega (arith, all, lies.z))))) (laws.tallies.none counts)

-- a column that is there is the same by any default
any-default : (xs : List Column) (n : ℕ) (d e : Column) → n < length xs → get_or xs n d ≡ get_or xs n e
any-default [] n d e h = absurd (omega (arith, h))
any-default (x ∷ xs) zero d e h = refl
any-default (x ∷ xs) (suc n) d e h = any-default xs n d e (omega (arith, h))

-- a column that is written over another
pub written : (xs lent items : List Column) (n place : ℕ) (d : Column) → lent ≡ xs → items ≡ refill (length xs) xs (set lent place (get_or lent n d)) → items ≡ set xs place (get_or xs n d)
written xs lent items n place d same is =
    let after = set xs place (get_or xs n d) in
    let long : length (set xs place (get_or xs n d)) ≡ length xs = length-set xs place (get_or xs n d) in
    is ∙ ap (λ l. refill (length xs) xs (set l place (get_or l n d))) same
    ∙ take-append-le (length xs) after (drop (length after) xs) (omega (arith, long)) ∙ take_all (length xs) after (omega (arith, long))

-- one more column stays among those that have no top, or does not
pub kept-more : (tops : List ℕ) (start xs items : List Column) (kept n more : ℕ) (d : Column)
    → FiltersInPlace (λ (column : Column). get_or tops column.place 0 == 0) start xs kept n → n < length xs → get_or tops (get_or xs n d).place 0 ≡ 0 → items ≡ set xs kept (get_or xs n d) → more ≡ kept + 1
    → FiltersInPlace (λ (column : Column). get_or tops column.place 0 == 0) start items more (n + 1)
kept-more tops start xs items kept n more d was within none is next =
    let test : Column → Bool = λ (column : Column). get_or tops column.place 0 == 0 in
    subst (λ l. FiltersInPlace test start l more (n + 1)) (sym is)
    (subst (λ m. FiltersInPlace test start (set xs kept (get_or xs n d)) m (n + 1)) (sym next)
    (FiltersInPlace-more_set {x = get_or xs n d} was within (eq-eqb (get_or tops (get_or xs n d).place 0) 0 none) (any-default xs n d (get_or xs n d) within)))

pub kept-less : (tops : List ℕ) (start xs items : List Column) (kept n more : ℕ) (d : Column)
    → FiltersInPlace (λ (column : Column). get_or tops column.place 0 == 0) start xs kept n → n < length xs → (get_or tops (get_or xs n d).place 0 ≡ 0 → ⊥) → items ≡ xs → more ≡ kept
    → FiltersInPlace (λ (column : Column). get_or tops column.place 0 == 0) start items more (n + 1)
kept-less tops start xs items kept n more d was within some is next =
    let test : Column → Bool = λ (column : Column). get_or tops column.place 0 == 0 in
    subst (λ l. FiltersInPlace test start l more (n + 1)) (sym is)
    (subst (λ m. FiltersInPlace test start xs m (n + 1)) (sym next)
    (FiltersInPlace-more_no {x = get_or xs n d} was within (ne_eqb (get_or tops (get_or xs n d).place 0) 0 some) (any-default xs n d (get_or xs n d) within)))

-- Sums over columns and samples, and how many samples of a box are top ones.
use Rattle.std.proofs.Common.{◌≡◌, ℕ, zero, suc, ◌+◌, ◌-◌, ◌*◌, ◌<◌, ◌≤◌, Bool, true, false, cond, List, [], ◌∷◌, get_or, refl, sym, ap, ◌∙◌, ◌⊎◌, inl, inr, zero-add, arith}
use Rattle.std.specs.Prelude.{nat_le, nat_lt, ◌==◌, ◌&&◌}
use Rattle.std.specs.List.{range_with_len, sum_by}
use Rattle.std.proofs.lemmas.Bool.{cases_eq, eq-eqb, lt-ltb, ne_eqb}
use Rattle.std.proofs.lemmas.Bool.Decides.{nat_tests}
use Rattle.std.proofs.lemmas.List.Sums.{sum_by-cons}
use Rattle.box_chains.specs.Laws.{Lawful}
use Rattle.box_chains.specs.Sums.{LiesIn, Sample, sum_along, sum_in}
use Rattle.box_chains.specs.Tested.{has_some}
use Rattle.box_chains.specs.Visits.{sample_point}
use Rattle.view_places.specs.Boxes.{Indices, IsBox}
use Rattle.view_places.specs.Window.{Window}
use Rattle.height_map.specs.Bound.{layered}
use Rattle.live_clauses.specs.declared.step.Step.{Step}
use Rattle.normal_shade.specs.DualWork.{dual_points}
use Rattle.normal_shade.specs.Lit.{lit_in}
use Rattle.normal_shade.specs.Marks.{is_marked, is_within, lit_along, tops_along, tops_in}

-- sums of equal numbers
sum-same : {X : Type 0} (f g : X → ℕ) (xs : List X) → ((x : X) → f x ≡ g x) → sum_by f xs ≡ sum_by g xs
sum-same f g [] same = refl
sum-same f g (x ∷ xs) same = omega (arith, sum_by-cons f x xs, sum_by-cons g x xs, same x, sum-same f g xs same)

-- the sum of sums
sum-plus : {X : Type 0} (f g : X → ℕ) (xs : List X) → sum_by (λ x. f x + g x) xs ≡ sum_by f xs + sum_by g xs
sum-plus f g [] = refl
sum-plus f g (x ∷ xs) = omega (arith, sum_by-cons f x xs, sum_by-cons g x xs, sum_by-cons (λ y. f y + g y) x xs, sum-plus f g xs)

sum-zero : {X : Type 0} (xs : List X) → sum_by (λ x. 0) xs ≡ 0
sum-zero [] = refl
sum-zero {X = X} (x ∷ xs) = omega (arith, sum_by-cons (λ (y : X). 0) x xs, sum-zero xs)

-- a sum, so many times
sum-times : {X : Type 0} (f : X → ℕ) (n : ℕ) (xs : List X) → sum_by (λ x. f x * n) xs ≡ sum_by f xs * n
sum-times f n [] = omega arith
sum-times f n (x ∷ xs) =
    let apart : (f x + sum_by f xs) * n ≡ f x * n + sum_by f xs * n = grind arith in
    omega (arith, sum_by-cons (λ y. f y * n) x xs, sum-times f n xs, apart, ap (λ m. m * n) (sum_by-cons f x xs))

-- sums of sums, the other way round
sum-turned : (xs ys : List ℕ) (f : ℕ → ℕ → ℕ) → sum_by (λ x. sum_by (λ y. f x y) ys) xs ≡ sum_by (λ y. sum_by (λ x. f x y) xs) ys
sum-turned [] ys f = sym (sum-zero ys)
sum-turned (x ∷ xs) ys f =
    sum_by-cons (λ z. sum_by (λ y. f z y) ys) x xs
    ∙ ap (λ n. sum_by (λ y. f x y) ys + n) (sum-turned xs ys f)
    ∙ sym (sum-plus (λ y. f x y) (λ y. sum_by (λ z. f z y) xs) ys)
    ∙ sum-same (λ y. f x y + sum_by (λ z. f z y) xs) (λ y. sum_by (λ z. f z y) (x ∷ xs)) ys (λ y. sym (sum_by-cons (λ z. f z y) x xs))

-- each test that passes, so many times
pub sum-tested : (test : Sample → Bool) (n : ℕ) (b : Indices) → sum_in b (λ s. cond (test s) n 0) ≡ sum_in b (λ s. cond (test s) 1 0) * n
sum-tested test n b =
    sum-same _ (λ k. sum_along b.y0 b.y1 (λ j. sum_along b.x0 b.x1 (λ i. one i j k)) * n) (range_with_len b.z0 (b.z1 - b.z0))
    (λ k.
    sum-same _ (λ j. sum_along b.x0 b.x1 (λ i. one i j k) * n) (range_with_len b.y0 (b.y1 - b.y0))
    (λ j.
    sum-same (λ i. cond (test (record { i = i; j = j; k = k })) n 0) (λ i. one i j k * n) (range_with_len b.x0 (b.x1 - b.x0)) (λ i. once (test (record { i = i; j = j; k = k })))
    ∙ sum-times (λ i. one i j k) n (range_with_len b.x0 (b.x1 - b.x0)))
    ∙ sum-times (λ j. sum_along b.x0 b.x1 (λ i. one i j k)) n (range_with_len b.y0 (b.y1 - b.y0)))
    ∙ sum-times (λ k. sum_along b.y0 b.y1 (λ j. sum_along b.x0 b.x1 (λ i. one i j k))) n (range_with_len b.z0 (b.z1 - b.z0))
  where
    one : ℕ → ℕ → ℕ → ℕ
    one i j k = cond (test (record { i = i; j = j; k = k })) 1 0

    once : (t : Bool) → cond {A = ℕ} t n 0 ≡ cond {A = ℕ} t 1 0 * n
    once true = omega arith
    once false = omega arith

-- of the samples of a column at most one is the top one: that right below the top
one-top : (top : ℕ) (f : ℕ → ℕ) (low n : ℕ) → sum_by (λ k. cond (top == k + 1) (f k) 0) (range_with_len low n) ≡ cond (nat_lt low top && nat_le top (low + n)) (f (top - 1)) 0
one-top top f low zero = let none : (nat_lt low top && nat_le top (low + 0)) ≡ false = grind (arith, nat_tests) in rw none refl
one-top top f low (suc n) =
    sum_by-cons (λ k. cond (top == k + 1) (f k) 0) low (range_with_len (low + 1) n)
    ∙ ap (λ m. cond (top == low + 1) (f low) 0 + m) (one-top top f (low + 1) n)
    ∙ by (cases_eq top (low + 1))
  where
    by : (top ≡ low + 1) ⊎ (top ≡ low + 1 → ⊥) → cond (top == low + 1) (f low) 0 + cond (nat_lt (low + 1) top && nat_le top (low + 1 + n)) (f (top - 1)) 0 ≡ cond (nat_lt low top && nat_le top (low + suc n)) (f (top - 1)) 0
    by (inl same) =
        let later : (nat_lt (low + 1) top && nat_le top (low + 1 + n)) ≡ false = grind (arith, nat_tests, same) in
        let now : (nat_lt low top && nat_le top (low + suc n)) ≡ true = grind (arith, nat_tests, same) in
        let below : low ≡ top - 1 = omega (arith, same) in
        rw (eq-eqb top (low + 1) same, later, now) (omega (arith, ap f below))
    by (inr other) =
        let later : (nat_lt (low + 1) top && nat_le top (low + 1 + n)) ≡ (nat_lt low top && nat_le top (low + suc n)) = grind (arith, nat_tests, ne_eqb top (low + 1) other) in
        rw (ne_eqb top (low + 1) other, later) (zero-add (cond (nat_lt low top && nat_le top (low + suc n)) (f (top - 1)) 0))

-- a sum over the top samples of a box is one over its columns, by the top of each
pub weighed-by_columns : (top : ℕ → ℕ → ℕ) (f : Sample → ℕ) (b : Indices) → IsBox b
    → sum_in b (λ s. cond (top s.i s.j == s.k + 1) (f s) 0) ≡ sum_along b.y0 b.y1 (λ j. sum_along b.x0 b.x1 (λ i. cond (is_within b (top i j)) (f (record { i = i; j = j; k = top i j - 1 })) 0))
weighed-by_columns top f b is =
    sum-turned (range_with_len b.z0 (b.z1 - b.z0)) (range_with_len b.y0 (b.y1 - b.y0)) (λ k j. sum_along b.x0 b.x1 (λ i. one i j k))
    ∙ sum-same _ (λ j. sum_along b.x0 b.x1 (λ i. column i j)) (range_with_len b.y0 (b.y1 - b.y0))
    (λ j.
    sum-turned (range_with_len b.z0 (b.z1 - b.z0)) (range_with_len b.x0 (b.x1 - b.x0)) (λ k i. one i j k)
    ∙ sum-same (λ i. sum_by (λ k. one i j k) (range_with_len b.z0 (b.z1 - b.z0))) (λ i. column i j) (range_with_len b.x0 (b.x1 - b.x0))
    (λ i.
    one-top (top i j) (λ k. f (record { i = i; j = j; k = k })) b.z0 (b.z1 - b.z0)
    ∙ ap (λ z. cond {A = ℕ} (nat_lt b.z0 (top i j) && nat_le (top i j) z) (f (record { i = i; j = j; k = top i j - 1 })) 0) high))
  where
    one : ℕ → ℕ → ℕ → ℕ
    one i j k = cond (top i j == k + 1) (f (record { i = i; j = j; k = k })) 0

    column : ℕ → ℕ → ℕ
    column i j = cond (is_within b (top i j)) (f (record { i = i; j = j; k = top i j - 1 })) 0

    high : b.z0 + (b.z1 - b.z0) ≡ b.z1
    high = omega (arith, is.z)

-- and the top samples of a box are as many
pub tops-by_columns : (top : ℕ → ℕ → ℕ) (b : Indices) → IsBox b
    → sum_in b (λ s. cond (top s.i s.j == s.k + 1) 1 0) ≡ sum_along b.y0 b.y1 (λ j. sum_along b.x0 b.x1 (λ i. cond (is_within b (top i j)) 1 0))
tops-by_columns top b is = weighed-by_columns top (λ s. 1) b is

pub tops-by_rows : (w : ℕ) (tops : List ℕ) (b : Indices) → IsBox b → tops_in w tops b ≡ sum_along b.y0 b.y1 (λ j. tops_along w tops b j b.x0 b.x1)
tops-by_rows w tops b is = tops-by_columns (λ i j. get_or tops (j * w + i) 0) b is

-- the evaluations for the top samples of a box are those for its rows
pub lit-by_rows : (view : Window) (list : List Step) (w : ℕ) (tops : List ℕ) (b : Indices) → w ≡ view.w → IsBox b
    → lit_in (is_marked w tops) (layered view) b list ≡ sum_along b.y0 b.y1 (λ j. lit_along view list tops b j b.x0 b.x1)
lit-by_rows view list w tops b width is =
    ap (λ n. lit_in (is_marked n tops) (layered view) b list) width
    ∙ weighed-by_columns (λ i j. get_or tops (j * view.w + i) 0) (λ s. dual_points (sample_point (layered view) s) list) b is

-- a sum of one number
along-one : (i : ℕ) (f : ℕ → ℕ) → sum_along i (i + 1) f ≡ f i
along-one i f = let count : i + 1 - i ≡ 1 = omega arith in rw count (zero-add (f i))

-- one more number
pub along-more : (laws : Lawful) (low i : ℕ) (f : ℕ → ℕ) → low ≤ i → sum_along low (i + 1) f ≡ sum_along low i f + f i
along-more laws low i f below = omega (arith, laws.axes.parts low i (i + 1) f below (omega arith), along-one i f)

-- none yet
pub along-none : (low : ℕ) (f : ℕ → ℕ) → sum_along low low f ≡ 0
along-none low f = let none : low - low ≡ 0 = omega arith in rw none refl

-- each number is among a sum
pub along-above : (laws : Lawful) (low high i : ℕ) (f : ℕ → ℕ) → low ≤ i → i < high → f i ≤ sum_along low high f
along-above laws low high i f below above =
    omega (arith, laws.axes.parts low i high f below (omega (arith, above)), laws.axes.parts i (i + 1) high f (omega arith) (omega (arith, above)), along-one i f)

pub sum-above : (laws : Lawful) (b : Indices) (f : Sample → ℕ) (s : Sample) → LiesIn b s → f s ≤ sum_in b f
sum-above laws b f s lies =
    let x = along-above laws b.x0 b.x1 s.i (λ i. f (record { i = i; j = s.j; k = s.k })) lies.x.0 lies.x.1 in
    let y = along-above laws b.y0 b.y1 s.j (λ j. sum_along b.x0 b.x1 (λ i. f (record { i = i; j = j; k = s.k }))) lies.y.0 lies.y.1 in
    let z = along-above laws b.z0 b.z1 s.k (λ k. sum_along b.y0 b.y1 (λ j. sum_along b.x0 b.x1 (λ i. f (record { i = i; j = j; k = k })))) lies.z.0 lies.z.1 in
    omega (arith, x, y, z)

-- a sample that passes a test tells of a box
pub some-of : (laws : Lawful) (test : Sample → Bool) (b : Indices) (s : Sample) → LiesIn b s → test s ≡ true → has_some test b ≡ true
some-of laws test b s lies e =
    lt-ltb 0 (sum_in b (λ t. cond (test t) 1 0)) (omega (arith, sum-above laws b (λ t. cond (test t) 1 0) s lies, ap (λ t. cond {A = ℕ} t 1 0) e))

-- and where none passes, none of its samples does
pub none-of : (laws : Lawful) (test : Sample → Bool) (b : Indices) (s : Sample) → LiesIn b s → has_some test b ≡ false → test s ≡ false
none-of laws test b s lies e = by (test s) refl
  where
    by : (t : Bool) → test s ≡ t → t ≡ false
    by false is = refl
    by true is = absurd (omega (arith, ap (λ t. cond {A = ℕ} t 1 0) (sym (some-of laws test b s lies is) ∙ e)))

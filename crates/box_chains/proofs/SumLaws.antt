-- How sums over the samples of a box are those over its halves.
use Rattle.std.proofs.Common.{◌≡◌, ℕ, zero, suc, ◌+◌, ◌-◌, ◌*◌, ◌<◌, ◌≤◌, Bool, true, false, cond, List, [], ◌∷◌, refl, sym, ◌∙◌, zero-add, add-zero, arith}
use Rattle.std.specs.Prelude.{nat_lt, ◌==◌, ◌&&◌}
use Rattle.std.specs.List.{All, flat_map, range_with_len, sum_by}
use Rattle.std.proofs.lemmas.Bool.{cond-false, cond-true, eq-eqb, ne_eqb}
use Rattle.std.proofs.lemmas.List.Elements.{All-head, All-tail}
use Rattle.std.proofs.lemmas.Bool.Decides.{nat_tests}
use Rattle.std.proofs.lemmas.List.Concat.{flat_map-cons}
use Rattle.std.proofs.lemmas.List.Sums.{sum_by-append, sum_by-cons}
use Rattle.view_places.specs.Boxes.{Indices, IsBox, halves_of, halves_x, halves_y, halves_z, middle}
use Rattle.box_chains.specs.Sums.{LiesIn, Sample, size, sum_along, sum_in}

-- a sum over so many numbers from low on
abbrev pub upto : ℕ → ℕ → (ℕ → ℕ) → ℕ
upto low n f = sum_by f (range_with_len low n)

upto-suc : (low n : ℕ) (f : ℕ → ℕ) → upto low (suc n) f ≡ f low + upto (low + 1) n f
upto-suc low n f = sum_by-cons f low (range_with_len (low + 1) n)

-- sums of equal numbers are equal
upto-same : (low n : ℕ) (f g : ℕ → ℕ) → ((i : ℕ) → low ≤ i → i < low + n → f i ≡ g i)
    → upto low n f ≡ upto low n g
upto-same low zero f g same = refl
upto-same low (suc n) f g same =
    let first = same low (omega arith) (omega arith) in
    let others = upto-same (low + 1) n f g (λ i l h. same i (omega (arith, l))
    (omega (arith, h))) in
    omega (arith, upto-suc low n f, upto-suc low n g, first, others)

-- the sum of sums
upto-plus : (low n : ℕ) (f g : ℕ → ℕ) → upto low n (λ i. f i + g i) ≡ upto low n f + upto low n g
upto-plus low zero f g = refl
upto-plus low (suc n) f g =
    omega (
      arith,
      upto-suc low n f,
      upto-suc low n g,
      upto-suc low n (λ i. f i + g i),
      upto-plus (low + 1) n f g,
    )

-- a sum in two parts
upto-parts : (low m n : ℕ) (f : ℕ → ℕ) → upto low (m + n) f ≡ upto low m f + upto (low + m) n f
upto-parts low zero n f = rw (zero-add n, add-zero low) (sym (zero-add (upto low n f)))
upto-parts low (suc m) n f =
    let from : (low + 1) + m ≡ low + suc m = omega arith in
    let length : suc m + n ≡ suc (m + n) = omega arith in
    let others = rw from at (upto-parts (low + 1) m n f) in
    rw length (omega (arith, upto-suc low (m + n) f, upto-suc low m f, others))

upto-le : (low n most : ℕ) (f : ℕ → ℕ) → ((i : ℕ) → low ≤ i → i < low + n → f i ≤ most)
    → upto low n f ≤ n * most
upto-le low zero most f h = omega arith
upto-le low (suc n) most f h =
    let first = h low (omega arith) (omega arith) in
    let others = upto-le (low + 1) n most f (λ i l k. h i (omega (arith, l)) (omega (arith, k))) in
    omega (arith, upto-suc low n f, first, others)

pub upto-const : (low n c : ℕ) → upto low n (λ i. c) ≡ n * c
upto-const low zero c = omega arith
upto-const low (suc n) c = omega (arith, upto-suc low n (λ i. c), upto-const (low + 1) n c)

pub along-same : (low high : ℕ) (f g : ℕ → ℕ) → ((i : ℕ) → low ≤ i → i < high → f i ≡ g i)
    → sum_along low high f ≡ sum_along low high g
along-same low high f g same =
    upto-same low (high - low) f g (λ i l h. same i l (omega (arith, l, h)))

pub along-plus : (low high : ℕ) (f g : ℕ → ℕ) → sum_along low high
    (λ i. f i + g i) ≡ sum_along low high f + sum_along low high g
along-plus low high f g = upto-plus low (high - low) f g

pub along-parts : (low mid high : ℕ) (f : ℕ → ℕ) → low ≤ mid → mid ≤ high
    → sum_along low mid f + sum_along mid high f ≡ sum_along low high f
along-parts low mid high f below above =
    let whole : (mid - low) + (high - mid) ≡ high - low = omega (arith, below, above) in
    let from : low + (mid - low) ≡ mid = omega (arith, below) in
    let parts = rw (whole, from) at (upto-parts low (mid - low) (high - mid) f) in
    sym parts

along-le : (low high most : ℕ) (f : ℕ → ℕ) → ((i : ℕ) → low ≤ i → i < high → f i ≤ most)
    → sum_along low high f ≤ (high - low) * most
along-le low high most f h = upto-le low (high - low) most f (λ i l k. h i l (omega (arith, l, k)))

-- the middle of a side that is halved lies within it
middle-within : (low high leaf : ℕ) → nat_lt leaf (high - low) ≡ true
    → (low ≤ middle low high) × (middle low high ≤ high)
middle-within low high leaf e = let longer : leaf < high - low =
    grind (arith, nat_tests) in (omega (arith, longer), omega arith)

sum-z : (leaf : ℕ) (b : Indices) (f : Sample → ℕ) → sum_by (λ h. sum_in h f)
    (halves_z leaf b) ≡ sum_in b f
sum-z leaf b f = by (nat_lt leaf (b.z1 - b.z0)) refl
  where
    layer : ℕ → ℕ
    layer k =
        sum_along b.y0 b.y1 (λ j. sum_along b.x0 b.x1 (λ i. f (record { i = i; j = j; k = k })))

    by : (l : Bool) → nat_lt leaf (b.z1 - b.z0) ≡ l → sum_by (λ h. sum_in h f)
        (cond l (record b { z1 = middle b.z0 b.z1 } ∷ record b { z0 = middle b.z0 b.z1 } ∷ [])
        (b ∷ [])) ≡ sum_in b f
    by false e = zero-add (sum_in b f)
    by true e =
        let within = middle-within b.z0 b.z1 leaf e in
        rw zero-add (along-parts b.z0 (middle b.z0 b.z1) b.z1 layer within.0 within.1)

sum-y : (leaf : ℕ) (b : Indices) (f : Sample → ℕ) → sum_by (λ h. sum_in h f)
    (halves_y leaf b) ≡ sum_in b f
sum-y leaf b f = by (nat_lt leaf (b.y1 - b.y0)) refl
  where
    row : ℕ → ℕ → ℕ
    row k j = sum_along b.x0 b.x1 (λ i. f (record { i = i; j = j; k = k }))

    by : (l : Bool) → nat_lt leaf (b.y1 - b.y0) ≡ l → sum_by (λ h. sum_in h f)
        (cond l (record b { y1 = middle b.y0 b.y1 } ∷ record b { y0 = middle b.y0 b.y1 } ∷ [])
        (b ∷ [])) ≡ sum_in b f
    by false e = zero-add (sum_in b f)
    by true e =
        let within = middle-within b.y0 b.y1 leaf e in
        let mid = middle b.y0 b.y1 in
        rw zero-add (
        sym (along-plus b.z0 b.z1 (λ k. sum_along b.y0 mid (row k))
        (λ k. sum_along mid b.y1 (row k)))
        ∙ along-same b.z0 b.z1 (λ k. sum_along b.y0 mid (row k) + sum_along mid b.y1 (row k))
        (λ k. sum_along b.y0 b.y1 (row k))
        (λ k l h. along-parts b.y0 mid b.y1 (row k) within.0 within.1))

sum-x : (leaf : ℕ) (b : Indices) (f : Sample → ℕ) → sum_by (λ h. sum_in h f)
    (halves_x leaf b) ≡ sum_in b f
sum-x leaf b f = by (nat_lt leaf (b.x1 - b.x0)) refl
  where
    at : ℕ → ℕ → ℕ → ℕ
    at k j i = f (record { i = i; j = j; k = k })

    by : (l : Bool) → nat_lt leaf (b.x1 - b.x0) ≡ l → sum_by (λ h. sum_in h f)
        (cond l (record b { x1 = middle b.x0 b.x1 } ∷ record b { x0 = middle b.x0 b.x1 } ∷ [])
        (b ∷ [])) ≡ sum_in b f
    by false e = zero-add (sum_in b f)
    by true e =
        let within = middle-within b.x0 b.x1 leaf e in
        let mid = middle b.x0 b.x1 in
        rw zero-add (
        sym (along-plus b.z0 b.z1 (λ k. sum_along b.y0 b.y1 (λ j. sum_along b.x0 mid (at k j)))
        (λ k. sum_along b.y0 b.y1 (λ j. sum_along mid b.x1 (at k j))))
        ∙ along-same b.z0 b.z1
        (λ k. sum_along b.y0 b.y1 (λ j. sum_along b.x0 mid (at k j)) + sum_along b.y0 b.y1
        (λ j. sum_along mid b.x1 (at k j)))
        (λ k. sum_along b.y0 b.y1 (λ j. sum_along b.x0 b.x1 (at k j)))
        (λ k l h.
        sym (along-plus b.y0 b.y1 (λ j. sum_along b.x0 mid (at k j))
        (λ j. sum_along mid b.x1 (at k j)))
        ∙ along-same b.y0 b.y1 (λ j. sum_along b.x0 mid (at k j) + sum_along mid b.x1 (at k j))
        (λ j. sum_along b.x0 b.x1 (at k j))
        (λ j m n. along-parts b.x0 mid b.x1 (at k j) within.0 within.1)))

-- sums over parts of what is cut up
cut-up : (g : Indices → ℕ) (f : Indices → List Indices) → ((b : Indices) → sum_by g (f b) ≡ g b)
    → (bs : List Indices) → sum_by g (flat_map f bs) ≡ sum_by g bs
cut-up g f same [] = refl
cut-up g f same (b ∷ bs) =
    rw (flat_map-cons f b bs) (omega (
      arith,
      sum_by-append g (f b) (flat_map f bs),
      sum_by-cons g b bs,
      same b,
      cut-up g f same bs,
    ))

-- a sum over the samples of a box is the sum over those of its halves
pub sum_in-halves : (leaf : ℕ) (b : Indices) (f : Sample → ℕ)
    → sum_by (λ h. sum_in h f) (halves_of leaf b) ≡ sum_in b f
sum_in-halves leaf b f =
    cut-up (λ h. sum_in h f) (halves_x leaf) (λ h. sum-x leaf h f)
    (flat_map (halves_y leaf) (halves_z leaf b))
    ∙ cut-up (λ h. sum_in h f) (halves_y leaf) (λ h. sum-y leaf h f) (halves_z leaf b)
    ∙ sum-z leaf b f

-- sums of equal numbers are equal
pub sum_in-same : (b : Indices) (f g : Sample → ℕ) → ((s : Sample) → LiesIn b s → f s ≡ g s)
    → sum_in b f ≡ sum_in b g
sum_in-same b f g same =
    along-same b.z0 b.z1 (λ k. sum_along b.y0 b.y1 (λ j. sum_along b.x0 b.x1
    (λ i. f (record { i = i; j = j; k = k })))) (λ k. sum_along b.y0 b.y1
    (λ j. sum_along b.x0 b.x1 (λ i. g (record { i = i; j = j; k = k }))))
    (λ k zl zh. along-same b.y0 b.y1 (λ j. sum_along b.x0 b.x1
    (λ i. f (record { i = i; j = j; k = k }))) (λ j. sum_along b.x0 b.x1
    (λ i. g (record { i = i; j = j; k = k })))
    (λ j yl yh. along-same b.x0 b.x1 (λ i. f (record { i = i; j = j; k = k }))
    (λ i. g (record { i = i; j = j; k = k }))
    (λ i xl xh. same (record { i = i; j = j; k = k }) (record {
      x = (xl, xh);
      y = (yl, yh);
      z = (zl, zh);
    }))))

-- the sum of sums
pub sum_in-plus : (b : Indices) (f g : Sample → ℕ) → sum_in b
    (λ s. f s + g s) ≡ sum_in b f + sum_in b g
sum_in-plus b f g =
    along-same b.z0 b.z1
    (λ k. sum_along b.y0 b.y1 (λ j. sum_along b.x0 b.x1
    (λ i. f (record { i = i; j = j; k = k }) + g (record { i = i; j = j; k = k }))))
    (λ k. sum_along b.y0 b.y1 (λ j. sum_along b.x0 b.x1
    (λ i. f (record { i = i; j = j; k = k }))) + sum_along b.y0 b.y1
    (λ j. sum_along b.x0 b.x1 (λ i. g (record { i = i; j = j; k = k }))))
    (λ k zl zh.
    along-same b.y0 b.y1
    (λ j. sum_along b.x0 b.x1 (λ i. f (record { i = i; j = j; k = k }) + g
    (record { i = i; j = j; k = k })))
    (λ j. sum_along b.x0 b.x1 (λ i. f (record { i = i; j = j; k = k })) + sum_along b.x0 b.x1
    (λ i. g (record { i = i; j = j; k = k })))
    (λ j yl yh. along-plus b.x0 b.x1 (λ i. f (record { i = i; j = j; k = k }))
    (λ i. g (record { i = i; j = j; k = k })))
    ∙ along-plus b.y0 b.y1 (λ j. sum_along b.x0 b.x1 (λ i. f (record { i = i; j = j; k = k })))
    (λ j. sum_along b.x0 b.x1 (λ i. g (record { i = i; j = j; k = k }))))
    ∙ along-plus b.z0 b.z1 (λ k. sum_along b.y0 b.y1 (λ j. sum_along b.x0 b.x1
    (λ i. f (record { i = i; j = j; k = k })))) (λ k. sum_along b.y0 b.y1
    (λ j. sum_along b.x0 b.x1 (λ i. g (record { i = i; j = j; k = k }))))

-- a sum of one number
pub sum_in-const : (b : Indices) (c : ℕ) → sum_in b (λ s. c) ≡ size b * c
sum_in-const b c =
    along-same b.z0 b.z1 (λ k. sum_along b.y0 b.y1 (λ j. sum_along b.x0 b.x1 (λ i. c)))
    (λ k. (b.y1 - b.y0) * ((b.x1 - b.x0) * c))
    (λ k zl zh.
    along-same b.y0 b.y1 (λ j. sum_along b.x0 b.x1 (λ i. c)) (λ j. (b.x1 - b.x0) * c)
    (λ j yl yh. upto-const b.x0 (b.x1 - b.x0) c)
    ∙ upto-const b.y0 (b.y1 - b.y0) ((b.x1 - b.x0) * c))
    ∙ upto-const b.z0 (b.z1 - b.z0) ((b.y1 - b.y0) * ((b.x1 - b.x0) * c))
    ∙ grind arith

-- a sum of numbers of which only the first is not 0
along-first : (low high c : ℕ) → low < high → sum_along low high (λ i. cond (i == low) c 0) ≡ c
along-first low high c some = by (high - low) (omega (arith, some))
  where
    by : (n : ℕ) → 0 < n → upto low n (λ i. cond (i == low) c 0) ≡ c
    by zero h = absurd (omega (arith, h))
    by (suc n) h =
        let first : cond {A = ℕ} (low == low) c 0 ≡ c = cond-true (low == low) c 0
        (eq-eqb low low refl) in
        let others = upto-same (low + 1) n (λ i. cond (i == low) c 0) (λ i. 0)
        (λ i l k. cond-false (i == low) c 0 (ne_eqb i low
        (λ same. omega (arith, l, same)))) in
        omega (
          arith,
          upto-suc low n (λ i. cond (i == low) c 0),
          first,
          others,
          upto-const (low + 1) n 0,
        )

-- a test in front of a choice
front : (t u : Bool) (c : ℕ) → cond {A = ℕ} (t && u) c 0 ≡ cond t (cond u c 0) 0
front true u c = refl
front false u c = refl

-- a sum of numbers of which only that of the first sample is not 0
pub sum_in-first : (b : Indices) (c : ℕ) → IsBox b → sum_in b
    (λ s. cond (s.i == b.x0 && (s.j == b.y0 && s.k == b.z0)) c 0) ≡ c
sum_in-first b c is =
    along-same b.z0 b.z1 (λ k. sum_along b.y0 b.y1 (λ j. sum_along b.x0 b.x1
    (λ i. cond (i == b.x0 && (j == b.y0 && k == b.z0)) c 0))) (λ k. cond (k == b.z0) c 0)
    (λ k zl zh.
    along-same b.y0 b.y1 (λ j. sum_along b.x0 b.x1 (λ i. cond
    (i == b.x0 && (j == b.y0 && k == b.z0)) c 0)) (λ j. cond (j == b.y0)
    (cond (k == b.z0) c 0) 0)
    (λ j yl yh.
    along-same b.x0 b.x1 (λ i. cond (i == b.x0 && (j == b.y0 && k == b.z0)) c 0)
    (λ i. cond (i == b.x0) (cond (j == b.y0 && k == b.z0) c 0) 0)
    (λ i xl xh. front (i == b.x0) (j == b.y0 && k == b.z0) c)
    ∙ along-first b.x0 b.x1 (cond (j == b.y0 && k == b.z0) c 0) is.x
    ∙ front (j == b.y0) (k == b.z0) c)
    ∙ along-first b.y0 b.y1 (cond (k == b.z0) c 0) is.y)
    ∙ along-first b.z0 b.z1 c is.z

-- sums over a list of equal numbers are equal
pub sum_by-equal : {X : Type 0} (f g : X → ℕ) (xs : List X) → All (λ x. f x ≡ g x) xs
    → sum_by f xs ≡ sum_by g xs
sum_by-equal f g [] same = refl
sum_by-equal f g (x ∷ xs) same =
    omega (
      arith,
      sum_by-cons f x xs,
      sum_by-cons g x xs,
      All-head (λ y. f y ≡ g y) x xs same,
      sum_by-equal f g xs (All-tail (λ y. f y ≡ g y) x xs same),
    )

-- How the nearer and the farther halves of a box lie, and what they give a column.
use Rattle.std.proofs.Common.{◌≡◌, ℕ, ◌+◌, ◌-◌, ◌%◌, ◌/◌, ◌<◌, ◌≤◌, Bool, true, false, cond, List, [], ◌∷◌, ◌++◌, length, take, drop, append-nil, refl, sym, ap, ◌∙◌, arith}
use Rattle.std.specs.Prelude.{nat_le, nat_lt, ◌&&◌, ◌||◌}
use Rattle.std.specs.List.{All, count_by, flat_map}
use Rattle.std.proofs.Math.Seq.{drop-append_seam, take-append_seam}
use Rattle.std.proofs.lemmas.Bool.Decides.{nat_tests}
use Rattle.std.proofs.lemmas.Grind.{flat_map-append}
use Rattle.std.proofs.lemmas.List.Concat.{flat_map-cons}
use Rattle.std.proofs.lemmas.List.Elements.{All-append, All-cons, All-head, All-nil, All-tail, All-weaker}
use Rattle.std.proofs.lemmas.List.Sums.{sum_by-append, sum_by-cons}
use Rattle.live_clauses.specs.declared.step.Step.{Step}
use Rattle.view_places.specs.Boxes.{Indices, IsBox, halves_of, halves_x, halves_y, middle}
use Rattle.view_places.specs.Window.{Window}
use Rattle.height_map.specs.Beside.{LieBeside, beside_top, farther, level_halves, nearer}
use Rattle.height_map.specs.Columns.{covers, leaf_top, lifted}
use Rattle.height_map.specs.Tops.{inside, top_among}
use Rattle.height_map.proofs.TopLaws.{lifted-twice}

-- what holds of all parts of each
All-flat_map : {X Y : Type 0} (P : Y → Type 0) (f : X → List Y) (xs : List X) → All (λ x. All P (f x)) xs → All P (flat_map f xs)
All-flat_map P f [] h = All-nil P
All-flat_map P f (x ∷ xs) h =
    rw (flat_map-cons f x xs) (All-append P (f x) (flat_map f xs) (All-head (λ y. All P (f y)) x xs h) (All-flat_map P f xs (All-tail (λ y. All P (f y)) x xs h)))

-- what the first of some boxes that has a column says of it, or else what is said without them
abbrev said_by : (Indices → Bool) → (Indices → ℕ) → ℕ → List Indices → ℕ
said_by has says n [] = n
said_by has says n (b ∷ bs) = cond (has b) (says b) (said_by has says n bs)

said-append : (has : Indices → Bool) (says : Indices → ℕ) (n : ℕ) (xs ys : List Indices) → said_by has says n (xs ++ ys) ≡ said_by has says (said_by has says n ys) xs
said-append has says n [] ys = refl
said-append has says n (x ∷ xs) ys = ap (λ m. cond (has x) (says x) m) (said-append has says n xs ys)

-- parts of a box that have together each of its columns once, and say the same
record PartsLikeBox (has : Indices → Bool) (says : Indices → ℕ) (parts : Indices → List Indices) : Type 0 where
  said : (b : Indices) (n : ℕ) → said_by has says n (parts b) ≡ cond (has b) (says b) n
  once : (b : Indices) → count_by has (parts b) ≡ cond (has b) 1 0

said-parts : (has : Indices → Bool) (says : Indices → ℕ) (parts : Indices → List Indices) (n : ℕ) (bs : List Indices) → PartsLikeBox has says parts
    → said_by has says n (flat_map parts bs) ≡ said_by has says n bs
said-parts has says parts n [] like = refl
said-parts has says parts n (b ∷ bs) like =
    ap (said_by has says n) (flat_map-cons parts b bs) ∙ said-append has says n (parts b) (flat_map parts bs) ∙ like.said b (said_by has says n (flat_map parts bs))
    ∙ ap (λ m. cond (has b) (says b) m) (said-parts has says parts n bs like)

once-parts : (has : Indices → Bool) (says : Indices → ℕ) (parts : Indices → List Indices) (bs : List Indices) → PartsLikeBox has says parts
    → count_by has (flat_map parts bs) ≡ count_by has bs
once-parts has says parts [] like = refl
once-parts has says parts (b ∷ bs) like =
    let one : Indices → ℕ = λ c. cond (has c) 1 0 in
    omega (
      arith,
      ap (count_by has) (flat_map-cons parts b bs),
      sum_by-append one (parts b) (flat_map parts bs),
      like.once b,
      once-parts has says parts bs like,
      sum_by-cons one b bs,
    )

-- two parts side by side
beside-said : (s t u : Bool) (a n : ℕ) → u ≡ (s || t) → cond s a (cond t a n) ≡ cond u a n
beside-said true t u a n e = rw e refl
beside-said false t u a n e = rw e refl

beside-once : (has : Indices → Bool) (b c : Indices) (u : Bool) → u ≡ (has b || has c) → (has b ≡ true → has c ≡ false) → count_by has (b ∷ c ∷ []) ≡ cond u 1 0
beside-once has b c u e apart =
    let one : Indices → ℕ = λ d. cond (has d) 1 0 in
    omega (arith, sum_by-cons one b (c ∷ []), sum_by-cons one c [], by (has b) (has c) e apart)
  where
    by : (s t : Bool) → u ≡ (s || t) → (s ≡ true → t ≡ false) → cond {A = ℕ} s 1 0 + cond {A = ℕ} t 1 0 ≡ cond {A = ℕ} u 1 0
    by true t e apart = rw (apart refl) (rw e refl)
    by false true e apart = rw e refl
    by false false e apart = rw e refl

whole-once : (has : Indices → Bool) (b : Indices) → count_by has (b ∷ []) ≡ cond (has b) 1 0
whole-once has b = let one : Indices → ℕ = λ d. cond (has d) 1 0 in omega (arith, sum_by-cons one b [])

tests-x : (x0 m x1 c : ℕ) (t : Bool) → x0 ≤ m → m ≤ x1 → (nat_le x0 c && (nat_lt c x1 && t)) ≡ ((nat_le x0 c && (nat_lt c m && t)) || (nat_le m c && (nat_lt c x1 && t)))
tests-x x0 m x1 c true below above = grind (arith, nat_tests)
tests-x x0 m x1 c false below above = grind (arith, nat_tests)

tests-x_apart : (x0 m x1 c : ℕ) (t : Bool) → (nat_le x0 c && (nat_lt c m && t)) ≡ true → (nat_le m c && (nat_lt c x1 && t)) ≡ false
tests-x_apart x0 m x1 c true e = grind (arith, nat_tests, e)
tests-x_apart x0 m x1 c false e = grind (arith, nat_tests, e)

tests-y : (y0 m y1 q : ℕ) (s t : Bool) → y0 ≤ m → m ≤ y1 → (s && (t && (nat_le y0 q && nat_lt q y1))) ≡ ((s && (t && (nat_le y0 q && nat_lt q m))) || (s && (t && (nat_le m q && nat_lt q y1))))
tests-y y0 m y1 q true true below above = grind (arith, nat_tests)
tests-y y0 m y1 q true false below above = refl
tests-y y0 m y1 q false t below above = refl

tests-y_apart : (y0 m y1 q : ℕ) (s t : Bool) → (s && (t && (nat_le y0 q && nat_lt q m))) ≡ true → (s && (t && (nat_le m q && nat_lt q y1))) ≡ false
tests-y_apart y0 m y1 q true true e = grind (arith, nat_tests, e)
tests-y_apart y0 m y1 q true false e = refl
tests-y_apart y0 m y1 q false t e = refl

middle-within : (low high leaf : ℕ) → nat_lt leaf (high - low) ≡ true → (low ≤ middle low high) × (middle low high ≤ high)
middle-within low high leaf e = let longer : leaf < high - low = grind (arith, nat_tests) in (omega (arith, longer), omega arith)

-- what a box says by its ends along z alone
abbrev by_ends : (ℕ → ℕ → ℕ) → Indices → ℕ
by_ends says b = says b.z0 b.z1

like-x : (w p leaf : ℕ) (says : ℕ → ℕ → ℕ) → PartsLikeBox (λ b. covers w b p) (by_ends says) (halves_x leaf)
like-x w p leaf says = record {
  said = λ b n. told b n (nat_lt leaf (b.x1 - b.x0)) refl;
  once = λ b. counted b (nat_lt leaf (b.x1 - b.x0)) refl;
}
  where
    has : Indices → Bool
    has b = covers w b p

    lower : Indices → Indices
    lower b = record b { x1 = middle b.x0 b.x1 }

    upper : Indices → Indices
    upper b = record b { x0 = middle b.x0 b.x1 }

    whole : (b : Indices) → nat_lt leaf (b.x1 - b.x0) ≡ true → has b ≡ (has (lower b) || has (upper b))
    whole b e = let mid = middle-within b.x0 b.x1 leaf e in tests-x b.x0 (middle b.x0 b.x1) b.x1 (p % w) (nat_le b.y0 (p / w) && nat_lt (p / w) b.y1) mid.0 mid.1

    apart : (b : Indices) → has (lower b) ≡ true → has (upper b) ≡ false
    apart b e = tests-x_apart b.x0 (middle b.x0 b.x1) b.x1 (p % w) (nat_le b.y0 (p / w) && nat_lt (p / w) b.y1) e

    told : (b : Indices) (n : ℕ) (t : Bool) → nat_lt leaf (b.x1 - b.x0) ≡ t → said_by has (by_ends says) n (cond t (lower b ∷ upper b ∷ []) (b ∷ [])) ≡ cond (has b) (says b.z0 b.z1) n
    told b n true e = beside-said (has (lower b)) (has (upper b)) (has b) (says b.z0 b.z1) n (whole b e)
    told b n false e = refl

    counted : (b : Indices) (t : Bool) → nat_lt leaf (b.x1 - b.x0) ≡ t → count_by has (cond t (lower b ∷ upper b ∷ []) (b ∷ [])) ≡ cond (has b) 1 0
    counted b true e = beside-once has (lower b) (upper b) (has b) (whole b e) (apart b)
    counted b false e = whole-once has b

like-y : (w p leaf : ℕ) (says : ℕ → ℕ → ℕ) → PartsLikeBox (λ b. covers w b p) (by_ends says) (halves_y leaf)
like-y w p leaf says = record {
  said = λ b n. told b n (nat_lt leaf (b.y1 - b.y0)) refl;
  once = λ b. counted b (nat_lt leaf (b.y1 - b.y0)) refl;
}
  where
    has : Indices → Bool
    has b = covers w b p

    lower : Indices → Indices
    lower b = record b { y1 = middle b.y0 b.y1 }

    upper : Indices → Indices
    upper b = record b { y0 = middle b.y0 b.y1 }

    whole : (b : Indices) → nat_lt leaf (b.y1 - b.y0) ≡ true → has b ≡ (has (lower b) || has (upper b))
    whole b e = let mid = middle-within b.y0 b.y1 leaf e in tests-y b.y0 (middle b.y0 b.y1) b.y1 (p / w) (nat_le b.x0 (p % w)) (nat_lt (p % w) b.x1) mid.0 mid.1

    apart : (b : Indices) → has (lower b) ≡ true → has (upper b) ≡ false
    apart b e = tests-y_apart b.y0 (middle b.y0 b.y1) b.y1 (p / w) (nat_le b.x0 (p % w)) (nat_lt (p % w) b.x1) e

    told : (b : Indices) (n : ℕ) (t : Bool) → nat_lt leaf (b.y1 - b.y0) ≡ t → said_by has (by_ends says) n (cond t (lower b ∷ upper b ∷ []) (b ∷ [])) ≡ cond (has b) (says b.z0 b.z1) n
    told b n true e = beside-said (has (lower b)) (has (upper b)) (has b) (says b.z0 b.z1) n (whole b e)
    told b n false e = refl

    counted : (b : Indices) (t : Bool) → nat_lt leaf (b.y1 - b.y0) ≡ t → count_by has (cond t (lower b ∷ upper b ∷ []) (b ∷ [])) ≡ cond (has b) 1 0
    counted b true e = beside-once has (lower b) (upper b) (has b) (whole b e) (apart b)
    counted b false e = whole-once has b

-- ---- halves by y and x alone

level-said : (w p leaf n : ℕ) (says : ℕ → ℕ → ℕ) (b : Indices) → said_by (λ h. covers w h p) (by_ends says) n (level_halves leaf b) ≡ cond (covers w b p) (says b.z0 b.z1) n
level-said w p leaf n says b =
    said-parts (λ h. covers w h p) (by_ends says) (halves_x leaf) n (halves_y leaf b) (like-x w p leaf says) ∙ (like-y w p leaf says).said b n

-- they have each column of the box once
level-once : (w p leaf : ℕ) (b : Indices) → count_by (λ h. covers w h p) (level_halves leaf b) ≡ cond (covers w b p) 1 0
level-once w p leaf b =
    let says : ℕ → ℕ → ℕ = λ low high. 0 in
    once-parts (λ h. covers w h p) (by_ends says) (halves_x leaf) (halves_y leaf b) (like-x w p leaf says) ∙ (like-y w p leaf says).once b

-- so they give each column the top that the box gives it
level-top : (view : Window) (list : List Step) (leaf : ℕ) (b : Indices) (p old : ℕ) → beside_top view list (level_halves leaf b) p old ≡ cond (covers view.w b p) (leaf_top view list b p old) old
level-top view list leaf b p old = same (level_halves leaf b) ∙ level-said view.w p leaf old says b
  where
    says : ℕ → ℕ → ℕ
    says low high = lifted (top_among view list low high (p % view.w) (p / view.w)) old

    same : (bs : List Indices) → beside_top view list bs p old ≡ said_by (λ h. covers view.w h p) (by_ends says) old bs
    same [] = refl
    same (c ∷ cs) = ap (λ n. cond (covers view.w c p) (leaf_top view list c p old) n) (same cs)

-- the ends along z are those of the box
abbrev pub EndsAlike : Indices → Indices → Type 0
EndsAlike b h = (h.z0 ≡ b.z0) × (h.z1 ≡ b.z1)

pub level-ends : (leaf : ℕ) (b : Indices) → All (EndsAlike b) (level_halves leaf b)
level-ends leaf b = All-flat_map (EndsAlike b) (halves_x leaf) (halves_y leaf b) (rows (nat_lt leaf (b.y1 - b.y0)))
  where
    two : {X : Type 0} (P : X → Type 0) (x y : X) → P x → P y → All P (x ∷ y ∷ [])
    two P x y px py = All-cons P x (y ∷ []) px (All-cons P y [] py (All-nil P))

    columns : (c : Indices) (t : Bool) → EndsAlike b c → All (EndsAlike b) (cond t (record c { x1 = middle c.x0 c.x1 } ∷ record c { x0 = middle c.x0 c.x1 } ∷ []) (c ∷ []))
    columns c true is = two (EndsAlike b) (record c { x1 = middle c.x0 c.x1 }) (record c { x0 = middle c.x0 c.x1 }) is is
    columns c false is = All-cons (EndsAlike b) c [] is (All-nil (EndsAlike b))

    each : (c : Indices) → EndsAlike b c → All (EndsAlike b) (halves_x leaf c)
    each c is = columns c (nat_lt leaf (c.x1 - c.x0)) is

    P : Indices → Type 0
    P c = All (EndsAlike b) (halves_x leaf c)

    rows : (t : Bool) → All P (cond t (record b { y1 = middle b.y0 b.y1 } ∷ record b { y0 = middle b.y0 b.y1 } ∷ []) (b ∷ []))
    rows true = two P (record b { y1 = middle b.y0 b.y1 }) (record b { y0 = middle b.y0 b.y1 }) (each (record b { y1 = middle b.y0 b.y1 }) (refl, refl)) (each (record b { y0 = middle b.y0 b.y1 }) (refl, refl))
    rows false = All-cons P b [] (each b (refl, refl)) (All-nil P)

-- ---- the nearer and the farther halves

-- together they are the halves
pub halves-parts : (leaf : ℕ) (b : Indices) → halves_of leaf b ≡ farther leaf b ++ nearer leaf b
halves-parts leaf b = by (nat_lt leaf (b.z1 - b.z0))
  where
    x : Indices → List Indices
    x = halves_x leaf

    y : Indices → List Indices
    y = halves_y leaf

    lower : Indices
    lower = record b { z1 = middle b.z0 b.z1 }

    upper : Indices
    upper = record b { z0 = middle b.z0 b.z1 }

    by : (t : Bool) → flat_map x (flat_map y (cond t (lower ∷ upper ∷ []) (b ∷ []))) ≡ cond t (level_halves leaf lower) [] ++ level_halves leaf (cond t upper b)
    by true =
        ap (flat_map x) (flat_map-cons y lower (upper ∷ []) ∙ ap (λ l. y lower ++ l) (flat_map-cons y upper [] ∙ append-nil (y upper)))
        ∙ flat_map-append x (y lower) (y upper)
    by false = ap (flat_map x) (flat_map-cons y b [] ∙ append-nil (y b))

-- the farther ones first
pub far-taken : (leaf n : ℕ) (b : Indices) (halves : List Indices) → halves ≡ halves_of leaf b → n ≡ length (farther leaf b) → take n halves ≡ farther leaf b
far-taken leaf n b halves all is =
    ap (take n) (all ∙ halves-parts leaf b) ∙ ap (λ m. take m (farther leaf b ++ nearer leaf b)) is ∙ take-append_seam (farther leaf b) (nearer leaf b)

pub far-dropped : (leaf n : ℕ) (b : Indices) (halves : List Indices) → halves ≡ halves_of leaf b → n ≡ length (farther leaf b) → drop n halves ≡ nearer leaf b
far-dropped leaf n b halves all is =
    ap (drop n) (all ∙ halves-parts leaf b) ∙ ap (λ m. drop m (farther leaf b ++ nearer leaf b)) is ∙ drop-append_seam (farther leaf b) (nearer leaf b)

one-at_most : (t : Bool) → cond {A = ℕ} t 1 0 ≤ 1
one-at_most true = omega arith
one-at_most false = omega arith

-- they lie beside each other
pub nearer-beside : (w leaf : ℕ) (b : Indices) → LieBeside w (nearer leaf b)
nearer-beside w leaf b p =
    let slab : Indices = cond (nat_lt leaf (b.z1 - b.z0)) (record b { z0 = middle b.z0 b.z1 }) b in
    omega (arith, level-once w p leaf slab, one-at_most (covers w slab p))

pub farther-beside : (w leaf : ℕ) (b : Indices) → LieBeside w (farther leaf b)
farther-beside w leaf b p = by (nat_lt leaf (b.z1 - b.z0))
  where
    slab : Indices
    slab = record b { z1 = middle b.z0 b.z1 }

    by : (t : Bool) → count_by (λ h. covers w h p) (cond t (level_halves leaf slab) []) ≤ 1
    by true = omega (arith, level-once w p leaf slab, one-at_most (covers w slab p))
    by false = omega arith

-- the nearer ones begin at the near end of the box
pub nearer-ends : (leaf : ℕ) (b : Indices) → All (λ h. h.z1 ≡ b.z1) (nearer leaf b)
nearer-ends leaf b = by (nat_lt leaf (b.z1 - b.z0))
  where
    by : (t : Bool) → All (λ h. h.z1 ≡ b.z1) (level_halves leaf (cond t (record b { z0 = middle b.z0 b.z1 }) b))
    by true = All-weaker (EndsAlike (record b { z0 = middle b.z0 b.z1 })) (λ h. h.z1 ≡ b.z1) (λ h alike. alike.1) (level_halves leaf (record b { z0 = middle b.z0 b.z1 })) (level-ends leaf (record b { z0 = middle b.z0 b.z1 }))
    by false = All-weaker (EndsAlike b) (λ h. h.z1 ≡ b.z1) (λ h alike. alike.1) (level_halves leaf b) (level-ends leaf b)

-- and where they are drawn, each column of a farther one is drawn down to it
pub farther-below : (view : Window) (list : List Step) (leaf : ℕ) (b : Indices) (old : ℕ → ℕ)
    → All (λ h. (p : ℕ) → covers view.w b p ≡ true → beside_top view list (nearer leaf b) p (old p) ≡ lifted (top_among view list h.z1 b.z1 (p % view.w) (p / view.w)) (old p)) (farther leaf b)
farther-below view list leaf b old = by (nat_lt leaf (b.z1 - b.z0))
  where
    lower : Indices
    lower = record b { z1 = middle b.z0 b.z1 }

    upper : Indices
    upper = record b { z0 = middle b.z0 b.z1 }

    by : (t : Bool)
        → All (λ h. (p : ℕ) → covers view.w b p ≡ true
        → beside_top view list (level_halves leaf (cond t upper b)) p (old p) ≡ lifted (top_among view list h.z1 b.z1 (p % view.w) (p / view.w)) (old p)) (cond t (level_halves leaf lower) [])
    by true =
        All-weaker (EndsAlike lower)
        (λ h. (p : ℕ) → covers view.w b p ≡ true → beside_top view list (level_halves leaf upper) p (old p) ≡ lifted (top_among view list h.z1 b.z1 (p % view.w) (p / view.w)) (old p))
        (λ h alike p e.
        level-top view list leaf upper p (old p) ∙ ap (λ t. cond t (leaf_top view list upper p (old p)) (old p)) e
        ∙ ap (λ z. lifted (top_among view list z b.z1 (p % view.w) (p / view.w)) (old p)) (sym alike.1))
        (level_halves leaf lower) (level-ends leaf lower)
    by false = All-nil _

-- all of them give each column the top that the box gives it
pub halves-top : (view : Window) (list : List Step) (leaf : ℕ) (b : Indices) (p old : ℕ) → IsBox b
    → beside_top view list (farther leaf b) p (beside_top view list (nearer leaf b) p old) ≡ cond (covers view.w b p) (leaf_top view list b p old) old
halves-top view list leaf b p old is = by (nat_lt leaf (b.z1 - b.z0)) refl
  where
    lower : Indices
    lower = record b { z1 = middle b.z0 b.z1 }

    upper : Indices
    upper = record b { z0 = middle b.z0 b.z1 }

    twice : (t : Bool) → nat_lt leaf (b.z1 - b.z0) ≡ true → cond t (leaf_top view list lower p (cond t (leaf_top view list upper p old) old)) (cond t (leaf_top view list upper p old) old) ≡ cond t (leaf_top view list b p old) old
    twice true e = let mid = middle-within b.z0 b.z1 leaf e in lifted-twice (inside view list (p % view.w) (p / view.w)) b.z0 (middle b.z0 b.z1) b.z1 old mid.0 mid.1
    twice false e = refl

    by : (t : Bool) → nat_lt leaf (b.z1 - b.z0) ≡ t
        → beside_top view list (cond t (level_halves leaf lower) []) p (beside_top view list (level_halves leaf (cond t upper b)) p old) ≡ cond (covers view.w b p) (leaf_top view list b p old) old
    by true e =
        level-top view list leaf lower p (beside_top view list (level_halves leaf upper) p old)
        ∙ ap (λ n. cond (covers view.w b p) (leaf_top view list lower p n) n) (level-top view list leaf upper p old) ∙ twice (covers view.w b p) e
    by false e = level-top view list leaf b p old

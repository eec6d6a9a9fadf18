-- How painted rows are those of their parts.
use Rattle.std.proofs.Common.{◌≡◌, ℕ, ◌+◌, ◌-◌, ◌*◌, ◌/◌, ◌%◌, ◌<◌, ◌≤◌, Bool, true, false, cond, List, length, map, get_or, set, refl, sym, ap, subst, ◌∙◌, ◌⊎◌, inl, inr, arith}
use Rattle.std.specs.Prelude.{max, min, nat_le, nat_lt, ◌==◌, ◌&&◌, ◌||◌}
use Rattle.std.specs.List.{range_with_len}
use Rattle.fixed_ops.specs.Raw.{is_inside}
use Rattle.live_clauses.specs.Steps.{tape_value}
use Rattle.live_clauses.specs.declared.step.Step.{Step}
use Rattle.view_places.specs.Places.{point_of}
use Rattle.std.proofs.lemmas.List.FromFn.{get_or-map-range_with_len}
use Rattle.quad_descent.specs.Nodes.{bits_of, insides, rows_of}
use Rattle.quad_descent.specs.Pixels.{pixel_at}
use Rattle.quad_descent.proofs.Leaves.{bits-more}
use Rattle.std.proofs.Math.Nat.{mod-lt, mul-le-mul_right}
use Rattle.std.proofs.lemmas.List.{get_or-set_other, get_or-set_same, length-set}
use Rattle.std.proofs.lemmas.Nat.{div-add-mod'}
use Rattle.std.proofs.lemmas.Bool.{and_cases, and_from, and_parts, cases_eq, cases_lt, cases_order, eq-eqb, eqb-true, le-leb, le-ltb, leb-true, lt-leb, lt-ltb, ltb-false, ltb-true, ne_eqb}
use Rattle.std.proofs.lemmas.Bool.Decides.{nat_tests}
use Rattle.view_places.specs.Boxes.{Indices, IsBox}
use Rattle.view_places.specs.Window.{Window}
use Rattle.quad_descent.specs.Painting.{IsBand, Paints, among, byte_at, covers, meets}
use Rattle.quad_descent.specs.declared.band.Band.{Band}
use Rattle.view_places.specs.Spans.{IsInRoot}
use Rattle.view_places.specs.declared.lattice.Lattice.TheVariants.{Raster}

pub Paints-none : (c : ℕ → Bool) (f : ℕ → ℕ) (xs : List ℕ) → ((p : ℕ) → p < length xs → c p ≡ false) → Paints c f xs xs
Paints-none c f xs none = record { same = refl; each = λ p h. rw (none p h) refl }

-- other places that are the same ones
pub Paints-same : (c d : ℕ → Bool) (f : ℕ → ℕ) (xs ys : List ℕ) → ((p : ℕ) → p < length xs → c p ≡ d p) → Paints c f xs ys → Paints d f xs ys
Paints-same c d f xs ys agree painted = record {
  same = painted.same;
  each = λ p h. painted.each p h ∙ ap (λ t. cond t (f p) (get_or xs p 0)) (agree p h);
}

-- painting places after others
pub Paints-then : (c d e : ℕ → Bool) (f : ℕ → ℕ) (xs ys zs : List ℕ) → ((p : ℕ) → p < length xs → e p ≡ (d p || c p)) → Paints c f xs ys → Paints d f ys zs → Paints e f xs zs
Paints-then c d e f xs ys zs joined first second = record {
  same = second.same ∙ first.same;
  each = λ p h.
      second.each p (omega (arith, h, first.same))
      ∙ ap (λ old. cond (d p) (f p) old) (first.each p h)
      ∙ either (c p) (d p) (f p) (get_or xs p 0)
      ∙ ap (λ t. cond t (f p) (get_or xs p 0)) (sym (joined p h));
}
  where
    either : (s t : Bool) (new old : ℕ) → cond t new (cond s new old) ≡ cond (t || s) new old
    either s true new old = refl
    either s false new old = refl

-- one byte
pub Paints-set : (f : ℕ → ℕ) (xs : List ℕ) (i v : ℕ) → i < length xs → v ≡ f i → Paints (λ p. p == i) f xs (set xs i v)
Paints-set f xs i v within is = record {
  same = length-set xs i v;
  each = λ p h. by p h (cases_eq p i);
}
  where
    by : (p : ℕ) → p < length xs → (p ≡ i) ⊎ (p ≡ i → ⊥) → get_or (set xs i v) p 0 ≡ cond (p == i) (f p) (get_or xs p 0)
    by p h (inl same) = rw (eq-eqb p i same) (ap (λ q. get_or (set xs i v) q 0) same ∙ get_or-set_same xs i v 0 within ∙ is ∙ ap f (sym same))
    by p h (inr other) = rw (ne_eqb p i other) (get_or-set_other xs i p v 0 other)

-- the same bytes
pub Paints-bytes : (c : ℕ → Bool) (f g : ℕ → ℕ) (xs ys : List ℕ) → ((p : ℕ) → p < length xs → c p ≡ true → f p ≡ g p) → Paints c f xs ys → Paints c g xs ys
Paints-bytes c f g xs ys agree painted = record {
  same = painted.same;
  each = λ p h. painted.each p h ∙ by (c p) p refl h;
}
  where
    by : (t : Bool) → (p : ℕ) → c p ≡ t → p < length xs → cond t (f p) (get_or xs p 0) ≡ cond t (g p) (get_or xs p 0)
    by true p e h = agree p h e
    by false p e h = refl

-- places from low on up to high, and one more
pub among-more : (low high p : ℕ) → low ≤ high → among low (high + 1) p ≡ (among low high p || p == high)
among-more low high p le = grind (arith, nat_tests)

le-shift : (a x m : ℕ) → nat_le (a + x) (a + m) ≡ nat_le x m
le-shift a x m = grind (arith, nat_tests)

lt-shift : (a m x : ℕ) → nat_lt (a + m) (a + x) ≡ nat_lt m x
lt-shift a m x = grind (arith, nat_tests)

and-false : (t : Bool) → (t && false) ≡ false
and-false true = refl
and-false false = refl

-- a place lies in a part of a row where its row is that one and its column lies there
pub row-among : (w r x0 x1 p : ℕ) → 0 < w → x1 ≤ w → among (r * w + x0) (r * w + x1) p ≡ (p / w == r && among x0 x1 (p % w))
row-among w r x0 x1 p some narrow = by (cases_order (p / w) r)
  where
    parts : p / w * w + p % w ≡ p
    parts = div-add-mod' p w

    short : p % w < w
    short = mod-lt p some

    by : (p / w ≡ r) ⊎ ((p / w < r) ⊎ (r < p / w)) → among (r * w + x0) (r * w + x1) p ≡ (p / w == r && among x0 x1 (p % w))
    by (inl same) =
        let is : p ≡ r * w + p % w = sym parts ∙ ap (λ q. q * w + p % w) same in
        rw (eq-eqb (p / w) r same)
        (ap (λ q. among (r * w + x0) (r * w + x1) q) is
        ∙ ap (λ t. t && nat_lt (r * w + p % w) (r * w + x1)) (le-shift (r * w) x0 (p % w))
        ∙ ap (λ t. nat_le x0 (p % w) && t) (lt-shift (r * w) (p % w) x1))
    by (inr (inl before)) =
        let rows : (p / w + 1) * w ≤ r * w = mul-le-mul_right w (omega (arith, before)) in
        let more : (p / w + 1) * w ≡ p / w * w + w = grind arith in
        let low : nat_le (r * w + x0) p ≡ false = lt-leb (r * w + x0) p (omega (arith, rows, more, parts, short)) in
        rw (ne_eqb (p / w) r (λ same. omega (arith, before, same))) (rw low refl)
    by (inr (inr after)) =
        let rows : (r + 1) * w ≤ p / w * w = mul-le-mul_right w (omega (arith, after)) in
        let more : (r + 1) * w ≡ r * w + w = grind arith in
        let high : nat_lt p (r * w + x1) ≡ false = le-ltb p (r * w + x1) (omega (arith, rows, more, parts, narrow)) in
        rw (ne_eqb (p / w) r (λ same. omega (arith, after, same))) (rw high (and-false (nat_le (r * w + x0) p)))

row-true : (a b z : Bool) → z ≡ true → (a && (b && (true && (true && z)))) ≡ ((true && (a && b)) || (a && (b && (true && (false && z)))))
row-true true true z e = e
row-true true false z e = refl
row-true false b z e = refl

-- the places of a box's rows before one, and of that one
pub covers-row : (w row j p : ℕ) (b : Indices) → 0 < w → b.x1 ≤ w → row ≤ j → b.y0 ≤ j → (nat_le b.z0 0 && nat_lt 0 b.z1) ≡ true
    → covers w row (record b { y1 = j + 1 }) p ≡ (among ((j - row) * w + b.x0) ((j - row) * w + b.x1) p || covers w row (record b { y1 = j }) p)
covers-row w row j p b some narrow below above layer = rw (row-among w (j - row) b.x0 b.x1 p some narrow) (by (cases_eq (p / w) (j - row)))
  where
    q : ℕ
    q = p / w

    a : Bool
    a = nat_le b.x0 (p % w)

    c : Bool
    c = nat_lt (p % w) b.x1

    z : Bool
    z = nat_le b.z0 0 && nat_lt 0 b.z1

    by : (p / w ≡ j - row) ⊎ (p / w ≡ j - row → ⊥)
        → (a && (c && (nat_le b.y0 (row + p / w) && (nat_lt (row + p / w) (j + 1) && z))))
        ≡ ((p / w == j - row && (a && c)) || (a && (c && (nat_le b.y0 (row + p / w) && (nat_lt (row + p / w) j && z)))))
    by (inl same) =
        let at : row + p / w ≡ j = omega (arith, same, below) in
        let first : nat_le b.y0 (row + p / w) ≡ true = le-leb b.y0 (row + p / w) (omega (arith, at, above)) in
        let more : nat_lt (row + p / w) (j + 1) ≡ true = lt-ltb (row + p / w) (j + 1) (omega (arith, at)) in
        let none : nat_lt (row + p / w) j ≡ false = le-ltb (row + p / w) j (omega (arith, at)) in
        rw (eq-eqb (p / w) (j - row) same, first, more, none) (row-true a c z layer)
    by (inr other) =
        let same : nat_lt (row + p / w) (j + 1) ≡ nat_lt (row + p / w) j = grind (arith, nat_tests, other, below) in
        rw (ne_eqb (p / w) (j - row) other, same) refl

-- the row of a place of so many rows
pub row-below : (w rows p : ℕ) → p < rows * w → p / w < rows
row-below w rows p within = by (cases_lt (p / w) rows)
  where
    by : (p / w < rows) ⊎ (rows ≤ p / w) → p / w < rows
    by (inl less) = less
    by (inr more) =
        let all : rows * w ≤ p / w * w = mul-le-mul_right w more in
        absurd (omega (arith, all, div-add-mod' p w, within))

-- rows beyond the band have no place in it
pub cut-rows : (w row rows p end : ℕ) (b : Indices) → p < rows * w → (row + rows ≤ end) ⊎ (b.y1 ≤ end) → end ≤ b.y1
    → covers w row (record b { y1 = end }) p ≡ covers w row b p
cut-rows w row rows p end b within reached below =
    let q = row-below w rows p within in
    ap (λ t. nat_le b.x0 (p % w) && (nat_lt (p % w) b.x1 && (nat_le b.y0 (row + p / w) && (t && (nat_le b.z0 0 && nat_lt 0 b.z1))))) (by reached q)
  where
    by : (row + rows ≤ end) ⊎ (b.y1 ≤ end) → p / w < rows → nat_lt (row + p / w) end ≡ nat_lt (row + p / w) b.y1
    by (inl band) q = lt-ltb (row + p / w) end (omega (arith, q, band)) ∙ sym (lt-ltb (row + p / w) b.y1 (omega (arith, q, band, below)))
    by (inr box) q = ap (λ e. nat_lt (row + p / w) e) (omega (arith, box, below))

-- a box has the one layer of a raster
pub one-layer : (view : Window) (b : Indices) → IsBox b → IsInRoot view Raster b → (nat_le b.z0 0 && nat_lt 0 b.z1) ≡ true
one-layer view b is within =
    and_from (nat_le b.z0 0) (nat_lt 0 b.z1) (le-leb b.z0 0 (omega (arith, is.z, within.z))) (lt-ltb 0 b.z1 (omega (arith, is.z)))

-- one more row of a box is painted
pub row-painted : (view : Window) (row j : ℕ) (b : Indices) (f : ℕ → ℕ) (xs ys zs : List ℕ) → 0 < view.w → IsBox b → IsInRoot view Raster b → row ≤ j → b.y0 ≤ j
    → Paints (covers view.w row (record b { y1 = j })) f xs ys → Paints (among ((j - row) * view.w + b.x0) ((j - row) * view.w + b.x1)) f ys zs
    → Paints (covers view.w row (record b { y1 = j + 1 })) f xs zs
row-painted view row j b f xs ys zs some is within below above first second =
    Paints-then (covers view.w row (record b { y1 = j })) (among ((j - row) * view.w + b.x0) ((j - row) * view.w + b.x1)) (covers view.w row (record b { y1 = j + 1 })) f xs ys zs
    (λ p h. covers-row view.w row j p b some within.x below above (one-layer view b is within)) first second

-- a place of such a row is one of the box
pub row-covered : (view : Window) (row j p : ℕ) (b : Indices) → 0 < view.w → IsBox b → IsInRoot view Raster b → row ≤ j → b.y0 ≤ j → j < b.y1
    → among ((j - row) * view.w + b.x0) ((j - row) * view.w + b.x1) p ≡ true → covers view.w row b p ≡ true
row-covered view row j p b some is within below above inside e =
    let parts = and_parts (p / view.w == j - row) (among b.x0 b.x1 (p % view.w)) (sym (row-among view.w (j - row) b.x0 b.x1 p some within.x) ∙ e) in
    let column = and_parts (nat_le b.x0 (p % view.w)) (nat_lt (p % view.w) b.x1) parts.1 in
    let at : row + p / view.w ≡ j = omega (arith, eqb-true (p / view.w) (j - row) parts.0, below) in
    let first : nat_le b.y0 (row + p / view.w) ≡ true = le-leb b.y0 (row + p / view.w) (omega (arith, at, above)) in
    let last : nat_lt (row + p / view.w) b.y1 ≡ true = lt-ltb (row + p / view.w) b.y1 (omega (arith, at, inside)) in
    rw (column.0, column.1, first, last) (one-layer view b is within)

-- all rows of a box that lie in the band are painted
pub rows-painted : (view : Window) (band : Band) (len end : ℕ) (b : Indices) (f : ℕ → ℕ) (xs ys : List ℕ) → IsBand view band len → length xs ≡ len
    → (band.row + band.rows ≤ end) ⊎ (b.y1 ≤ end) → end ≤ b.y1 → Paints (covers view.w band.row (record b { y1 = end })) f xs ys → Paints (covers view.w band.row b) f xs ys
rows-painted view band len end b f xs ys is_band same reached below painted =
    Paints-same (covers view.w band.row (record b { y1 = end })) (covers view.w band.row b) f xs ys
    (λ p h. cut-rows view.w band.row band.rows p end b (omega (arith, h, same, is_band.whole)) reached below) painted

-- a box that does not meet the band has no place in it
pub unmet : (view : Window) (band : Band) (len : ℕ) (b : Indices) (f : ℕ → ℕ) (xs : List ℕ) → IsBand view band len → length xs ≡ len → meets band b ≡ false → Paints (covers view.w band.row b) f xs xs
unmet view band len b f xs is_band same apart =
    Paints-none (covers view.w band.row b) f xs
    (λ p h. by p (row-below view.w band.rows p (omega (arith, h, same, is_band.whole))) (and_cases (nat_lt band.row b.y1) (nat_lt b.y0 (band.row + band.rows)) apart))
  where
    w : ℕ
    w = view.w

    row : ℕ
    row = band.row

    falls : (p : ℕ) (a c d z : Bool) → (c ≡ false) ⊎ (d ≡ false) → (nat_le b.x0 (p % w) && (a && (c && (d && z)))) ≡ false
    falls p a c d z (inl e) = rw e (ap (λ t. nat_le b.x0 (p % w) && t) (and-false a) ∙ and-false (nat_le b.x0 (p % w)))
    falls p a c d z (inr e) = rw e (ap (λ t. nat_le b.x0 (p % w) && (a && t)) (and-false c) ∙ ap (λ t. nat_le b.x0 (p % w) && t) (and-false a) ∙ and-false (nat_le b.x0 (p % w)))

    by : (p : ℕ) → p / w < band.rows → (nat_lt row b.y1 ≡ false) ⊎ (nat_lt b.y0 (row + band.rows) ≡ false) → covers w row b p ≡ false
    by p q (inl above) = falls p (nat_lt (p % w) b.x1) (nat_le b.y0 (row + p / w)) (nat_lt (row + p / w) b.y1) (nat_le b.z0 0 && nat_lt 0 b.z1) (inr (le-ltb (row + p / w) b.y1 (omega (arith, ltb-false row b.y1 above))))
    by p q (inr below) = falls p (nat_lt (p % w) b.x1) (nat_le b.y0 (row + p / w)) (nat_lt (row + p / w) b.y1) (nat_le b.z0 0 && nat_lt 0 b.z1) (inl (lt-leb b.y0 (row + p / w) (omega (arith, q, ltb-false b.y0 (row + band.rows) below))))

-- one more row of a box is filled with a byte that is right there
pub row-filled : (view : Window) (row j byte from to : ℕ) (b : Indices) (f : ℕ → ℕ) (xs ys zs : List ℕ) → 0 < view.w → IsBox b → IsInRoot view Raster b → row ≤ j → b.y0 ≤ j → j < b.y1
    → from ≡ (j - row) * view.w + b.x0 → to ≡ (j - row) * view.w + b.x1 → ((p : ℕ) → p < length xs → covers view.w row b p ≡ true → f p ≡ byte)
    → Paints (covers view.w row (record b { y1 = j })) f xs ys → Paints (among from to) (λ p. byte) ys zs
    → Paints (covers view.w row (record b { y1 = j + 1 })) f xs zs
row-filled view row j byte from to b f xs ys zs some is within below above inside start end right first second =
    row-painted view row j b f xs ys zs some is within below above first
    (Paints-bytes (among ((j - row) * view.w + b.x0) ((j - row) * view.w + b.x1)) (λ p. byte) f ys zs
    (λ p h e. sym (right p (omega (arith, h, first.same)) (row-covered view row j p b some is within below above inside e)))
    (subst (λ n. Paints (among ((j - row) * view.w + b.x0) n) (λ p. byte) ys zs) end (subst (λ n. Paints (among n to) (λ p. byte) ys zs) start second)))

-- where a box meets a band, its rows in it end with the box or with the band
pub met-rows : (band : Band) (b : Indices) (j end from : ℕ) → b.y0 < b.y1 → meets band b ≡ true → from ≡ max b.y0 band.row → end ≡ min b.y1 (band.row + band.rows)
    → end ≤ j → (from ≤ end → j ≤ end) → ((band.row + band.rows ≤ j) ⊎ (b.y1 ≤ j)) × (j ≤ b.y1)
met-rows band b j end from some met start stop reached bounded =
    let parts = and_parts (nat_lt band.row b.y1) (nat_lt b.y0 (band.row + band.rows)) met in
    let above = ltb-true band.row b.y1 parts.0 in
    let below = ltb-true b.y0 (band.row + band.rows) parts.1 in
    let last = bounded (omega (arith, start, stop, some, above, below)) in
    (by (cases_lt b.y1 (band.row + band.rows)), omega (arith, last, stop))
  where
    by : (b.y1 < band.row + band.rows) ⊎ (band.row + band.rows ≤ b.y1) → (band.row + band.rows ≤ j) ⊎ (b.y1 ≤ j)
    by (inl box) = inr (omega (arith, stop, reached, box))
    by (inr whole) = inl (omega (arith, stop, reached, whole))

-- where a place of a row lies
pub place-of : (w r i : ℕ) → i < w → ((r * w + i) / w ≡ r) × ((r * w + i) % w ≡ i)
place-of w r i narrow =
    let p = r * w + i in
    let inside : among (r * w + i) (r * w + (i + 1)) p ≡ true =
    and_from (nat_le (r * w + i) p) (nat_lt p (r * w + (i + 1))) (le-leb (r * w + i) p (omega arith)) (lt-ltb p (r * w + (i + 1)) (omega arith)) in
    let parts = and_parts (p / w == r) (among i (i + 1) (p % w)) (sym (row-among w r i (i + 1) p (omega (arith, narrow)) (omega (arith, narrow))) ∙ inside) in
    let column = and_parts (nat_le i (p % w)) (nat_lt (p % w) (i + 1)) parts.1 in
    (eqb-true (p / w) r parts.0, omega (arith, leb-true i (p % w) column.0, ltb-true (p % w) (i + 1) column.1))

-- places up to one, and that one before them
pub among-less : (low high p : ℕ) → low < high → among low high p ≡ (p == low || among (low + 1) high p)
among-less low high p less = grind (arith, nat_tests)

-- the digits of a number
pub digit-last : (a : ℕ) (t : Bool) → ((2 * a + cond t 1 0) / 2 ≡ a) × (((2 * a + cond t 1 0) % 2 == 1) ≡ t)
digit-last a true = (omega arith, eq-eqb ((2 * a + 1) % 2) 1 (omega arith))
digit-last a false = (omega arith, ne_eqb ((2 * a + 0) % 2) 1 (λ same. omega (arith, same)))

-- one more sample of a row is read
pub digit-read : (f : ℕ → Bool) (x0 x1 n rest : ℕ) → n < x1 - x0 → rest ≡ bits_of (map f (range_with_len x0 (x1 - x0 - n)))
    → (rest / 2 ≡ bits_of (map f (range_with_len x0 (x1 - x0 - (n + 1))))) × ((rest % 2 == 1) ≡ f (x1 - 1 - n))
digit-read f x0 x1 n rest less is =
    let k = x1 - x0 - (n + 1) in
    let count : x1 - x0 - n ≡ k + 1 = omega (arith, less) in
    let more = is ∙ ap (λ m. bits_of (map f (range_with_len x0 m))) count ∙ bits-more f x0 k (x1 - 1 - n) (omega (arith, less)) in
    let last = digit-last (bits_of (map f (range_with_len x0 k))) (f (x1 - 1 - n)) in
    (ap (λ m. m / 2) more ∙ last.0, ap (λ m. m % 2 == 1) more ∙ last.1)

-- the byte of a sample, where it stands in a band
pub byte-there : (view : Window) (list : List Step) (row j i : ℕ) (b : Indices) → i < view.w → row ≤ j → b.z0 ≡ 0
    → cond (is_inside (tape_value (point_of view Raster i j b.z0) list)) 255 0 ≡ byte_at view list row ((j - row) * view.w + i)
byte-there view list row j i b narrow above layer =
    let r = j - row in
    let w = view.w in
    let cell = place-of w r i narrow in
    let here : row + r ≡ j = omega (arith, above) in
    ap (λ k. cond (is_inside (tape_value (point_of view Raster i j k) list)) 255 0) layer
    ∙ ap (λ m. pixel_at view list i m) (sym here)
    ∙ ap (λ m. pixel_at view list i (row + m)) (sym cell.0)
    ∙ ap (λ m. pixel_at view list m (row + (r * w + i) / w)) (sym cell.1)

-- and painted
pub digit-painted : (view : Window) (list : List Step) (band : Band) (len j n byte start at : ℕ) (b : Indices) (xs ys : List ℕ)
    → IsBand view band len → length xs ≡ len → IsBox b → IsInRoot view Raster b → band.row ≤ j → j < band.row + band.rows → n < b.x1 - b.x0
    → start ≡ (j - band.row) * view.w → at ≡ start + (b.x1 - 1 - n)
    → byte ≡ cond (is_inside (tape_value (point_of view Raster (b.x1 - 1 - n) j b.z0) list)) 255 0
    → Paints (among ((j - band.row) * view.w + (b.x1 - n)) ((j - band.row) * view.w + b.x1)) (byte_at view list band.row) xs ys
    → Paints (among ((j - band.row) * view.w + (b.x1 - (n + 1))) ((j - band.row) * view.w + b.x1)) (byte_at view list band.row) xs (set ys at byte)
digit-painted view list band len j n byte start at b xs ys is_band same is within above below less begin place is_byte painted =
    let r = j - band.row in
    let w = view.w in
    let i = b.x1 - 1 - n in
    let f = byte_at view list band.row in
    let narrow : i < w = omega (arith, less, within.x) in
    let there : at ≡ r * w + i = place ∙ ap (λ m. m + i) begin in
    let layer : b.z0 ≡ 0 = omega (arith, is.z, within.z) in
    let right : byte ≡ f at = is_byte ∙ byte-there view list band.row j i b narrow above layer ∙ ap f (sym there) in
    let rows : (r + 1) * w ≤ band.rows * w = mul-le-mul_right w (omega (arith, above, below)) in
    let once : (r + 1) * w ≡ r * w + w = grind arith in
    let room : at < length ys = omega (arith, there, painted.same, same, is_band.whole, rows, once, narrow) in
    Paints-then (among (r * w + (b.x1 - n)) (r * w + b.x1)) (λ p. p == at) (among (r * w + (b.x1 - (n + 1))) (r * w + b.x1)) f xs ys (set ys at byte)
    (λ p h.
    among-less (r * w + (b.x1 - (n + 1))) (r * w + b.x1) p (omega (arith, less))
    ∙ ap (λ m. p == m || among (r * w + (b.x1 - (n + 1)) + 1) (r * w + b.x1) p) (omega (arith, there, less))
    ∙ ap (λ m. p == at || among m (r * w + b.x1) p) (omega (arith, less)))
    painted (Paints-set f ys at byte room right)

-- the number of a row of a leaf
pub row-read : (view : Window) (list : List Step) (b : Indices) (rows : List ℕ) (j at : ℕ) → rows ≡ rows_of view Raster list b → b.y1 - b.y0 ≤ 8 → b.y0 ≤ j → j < b.y1 → at ≡ j - b.y0
    → get_or rows at 0 ≡ bits_of (insides view Raster list b j)
row-read view list b rows j at is low above below place =
    let r = j - b.y0 in
    let row : ℕ → ℕ = λ r. cond (nat_lt r (b.y1 - b.y0)) (bits_of (insides view Raster list b (b.y0 + r))) 0 in
    ap (λ n. get_or rows n 0) place ∙ ap (λ l. get_or l r 0) is ∙ get_or-map-range_with_len row 0 8 r r 0 (omega (arith, low, above, below)) (omega arith)
    ∙ ap (λ t. cond t (bits_of (insides view Raster list b (b.y0 + r))) 0) (lt-ltb r (b.y1 - b.y0) (omega (arith, above, below)))
    ∙ ap (λ n. bits_of (insides view Raster list b n)) (omega (arith, above))

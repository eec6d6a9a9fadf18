-- How changes of tops are those of their parts.
use Rattle.std.proofs.Common.{◌≡◌, ℕ, ◌+◌, ◌*◌, ◌/◌, ◌%◌, ◌<◌, ◌≤◌, Bool, true, false, cond, List, length, get_or, set, refl, sym, ap, subst, ◌∙◌, ◌⊎◌, inl, inr, arith}
use Rattle.std.specs.Prelude.{nat_le, nat_lt, ◌==◌, ◌&&◌, ◌||◌}
use Rattle.std.proofs.Math.Nat.{mul-le-mul_right}
use Rattle.std.proofs.lemmas.Bool.{and_parts, cases_eq, cases_lt, eq-eqb, eqb-true, le-leb, leb-true, lt-ltb, ltb-true, ne_eqb}
use Rattle.std.proofs.lemmas.Bool.Decides.{nat_tests}
use Rattle.std.proofs.lemmas.List.{get_or-set_other, get_or-set_same, length-set}
use Rattle.std.proofs.lemmas.Nat.{div-add-mod', div-mul-add, mod-mul-add}
use Rattle.view_places.specs.Boxes.{Indices}
use Rattle.height_map.specs.Columns.{Changes, IsAmong, covers, lifted}

pub Changes-none : (c : ℕ → Bool) (f : ℕ → ℕ → ℕ) (xs : List ℕ) → ((p : ℕ) → p < length xs → c p ≡ true → f p (get_or xs p 0) ≡ get_or xs p 0) → Changes c f xs xs
Changes-none c f xs none = record { same = refl; each = λ p h. by (c p) p h refl }
  where
    by : (t : Bool) → (p : ℕ) → p < length xs → c p ≡ t → get_or xs p 0 ≡ cond t (f p (get_or xs p 0)) (get_or xs p 0)
    by true p h e = sym (none p h e)
    by false p h e = refl

-- the same numbers there
pub Changes-numbers : (c : ℕ → Bool) (f g : ℕ → ℕ → ℕ) (xs ys : List ℕ) → ((p : ℕ) → p < length xs → c p ≡ true → f p (get_or xs p 0) ≡ g p (get_or xs p 0)) → Changes c f xs ys → Changes c g xs ys
Changes-numbers c f g xs ys agree changed = record {
  same = changed.same;
  each = λ p h. changed.each p h ∙ by (c p) p refl h;
}
  where
    by : (t : Bool) → (p : ℕ) → c p ≡ t → p < length xs → cond t (f p (get_or xs p 0)) (get_or xs p 0) ≡ cond t (g p (get_or xs p 0)) (get_or xs p 0)
    by true p e h = agree p h e
    by false p e h = refl

-- changes at places after those at others
pub Changes-then : (c d e : ℕ → Bool) (f : ℕ → ℕ → ℕ) (xs ys zs : List ℕ) → ((p : ℕ) → p < length xs → e p ≡ (d p || c p)) → ((p : ℕ) → d p ≡ true → c p ≡ false)
    → Changes c f xs ys → Changes d f ys zs → Changes e f xs zs
Changes-then c d e f xs ys zs joined apart first second = record {
  same = second.same ∙ first.same;
  each = λ p h.
      second.each p (omega (arith, h, first.same))
      ∙ ap (λ old. cond (d p) (f p old) old) (first.each p h)
      ∙ either (c p) (d p) (apart p) p (get_or xs p 0)
      ∙ ap (λ t. cond t (f p (get_or xs p 0)) (get_or xs p 0)) (sym (joined p h));
}
  where
    either : (s t : Bool) → (t ≡ true → s ≡ false) → (p old : ℕ) → cond t (f p (cond s (f p old) old)) (cond s (f p old) old) ≡ cond (t || s) (f p old) old
    either s true none p old = ap (λ u. f p (cond u (f p old) old)) (none refl)
    either s false none p old = refl

-- one number
pub Changes-set : (f : ℕ → ℕ → ℕ) (xs : List ℕ) (i v : ℕ) → i < length xs → v ≡ f i (get_or xs i 0) → Changes (λ p. p == i) f xs (set xs i v)
Changes-set f xs i v within is = record {
  same = length-set xs i v;
  each = λ p h. by p h (cases_eq p i);
}
  where
    by : (p : ℕ) → p < length xs → (p ≡ i) ⊎ (p ≡ i → ⊥) → get_or (set xs i v) p 0 ≡ cond (p == i) (f p (get_or xs p 0)) (get_or xs p 0)
    by p h (inl same) = rw (eq-eqb p i same) (ap (λ q. get_or (set xs i v) q 0) same ∙ get_or-set_same xs i v 0 within ∙ is ∙ ap (λ q. f q (get_or xs q 0)) (sym same))
    by p h (inr other) = rw (ne_eqb p i other) (get_or-set_other xs i p v 0 other)

-- or one that stays
pub Changes-keep : (f : ℕ → ℕ → ℕ) (xs : List ℕ) (i : ℕ) → f i (get_or xs i 0) ≡ get_or xs i 0 → Changes (λ p. p == i) f xs xs
Changes-keep f xs i stays =
    Changes-none (λ p. p == i) f xs (λ p h e. let same = eqb-true p i e in ap (λ q. f q (get_or xs q 0)) same ∙ stays ∙ ap (λ q. get_or xs q 0) (sym same))

-- the place of a column
pub place-is : (w i j p : ℕ) → i < w → (p == j * w + i) ≡ (p / w == j && p % w == i)
place-is w i j p narrow = by (cases_eq p (j * w + i))
  where
    by : (p ≡ j * w + i) ⊎ (p ≡ j * w + i → ⊥) → (p == j * w + i) ≡ (p / w == j && p % w == i)
    by (inl same) =
        let row : p / w ≡ j = ap (λ q. q / w) same ∙ div-mul-add j w i narrow in
        let column : p % w ≡ i = ap (λ q. q % w) same ∙ mod-mul-add j w i narrow in
        rw (eq-eqb p (j * w + i) same, eq-eqb (p / w) j row, eq-eqb (p % w) i column) refl
    by (inr other) = rw (ne_eqb p (j * w + i) other) (parts (cases_eq (p / w) j) (cases_eq (p % w) i))
      where
        and-no : (t : Bool) → false ≡ (t && false)
        and-no true = refl
        and-no false = refl

        parts : (p / w ≡ j) ⊎ (p / w ≡ j → ⊥) → (p % w ≡ i) ⊎ (p % w ≡ i → ⊥) → false ≡ (p / w == j && p % w == i)
        parts (inl row) (inl column) = absurd (other (sym (div-add-mod' p w) ∙ ap (λ q. q * w + p % w) row ∙ ap (λ q. j * w + q) column))
        parts row (inr other_column) = rw (ne_eqb (p % w) i other_column) (and-no (p / w == j))
        parts (inr other_row) column = rw (ne_eqb (p / w) j other_row) refl

-- one more column of a row, by row and column
tests-column : (x0 i j c q : ℕ) → x0 ≤ i
    → (nat_le x0 c && (nat_lt c (i + 1) && (nat_le j q && nat_lt q (j + 1)))) ≡ ((q == j && c == i) || (nat_le x0 c && (nat_lt c i && (nat_le j q && nat_lt q (j + 1)))))
tests-column x0 i j c q above = grind (arith, nat_tests)

pub covers-column : (w i j p : ℕ) (b : Indices) → i < w → b.x0 ≤ i
    → covers w (record b { x1 = i + 1; y0 = j; y1 = j + 1 }) p ≡ (p == j * w + i || covers w (record b { x1 = i; y0 = j; y1 = j + 1 }) p)
covers-column w i j p b narrow above = tests-column b.x0 i j (p % w) (p / w) above ∙ ap (λ t. t || covers w (record b { x1 = i; y0 = j; y1 = j + 1 }) p) (sym (place-is w i j p narrow))

tests-apart : (x0 i j c q : ℕ) → (q == j && c == i) ≡ true → (nat_le x0 c && (nat_lt c i && (nat_le j q && nat_lt q (j + 1)))) ≡ false
tests-apart x0 i j c q e = grind (arith, nat_tests, e)

pub column-apart : (w i j p : ℕ) (b : Indices) → i < w → (p == j * w + i) ≡ true → covers w (record b { x1 = i; y0 = j; y1 = j + 1 }) p ≡ false
column-apart w i j p b narrow e = tests-apart b.x0 i j (p % w) (p / w) (sym (place-is w i j p narrow) ∙ e)

-- the row and the column of a place of a box
pub record IsCell (w : ℕ) (b : Indices) (p : ℕ) : Type 0 where
  pub column : (b.x0 ≤ p % w) × (p % w < b.x1)
  pub row : (b.y0 ≤ p / w) × (p / w < b.y1)
  pub is : p / w * w + p % w ≡ p

pub cell-of : (w p : ℕ) (b : Indices) → covers w b p ≡ true → IsCell w b p
cell-of w p b e =
    let x0 = and_parts (nat_le b.x0 (p % w)) _ e in
    let x1 = and_parts (nat_lt (p % w) b.x1) _ x0.1 in
    let y = and_parts (nat_le b.y0 (p / w)) (nat_lt (p / w) b.y1) x1.1 in
    record {
      column = (leb-true b.x0 (p % w) x0.0, ltb-true (p % w) b.x1 x1.0);
      row = (leb-true b.y0 (p / w) y.0, ltb-true (p / w) b.y1 y.1);
      is = div-add-mod' p w;
    }

-- and the place of a row and a column
pub covers-place : (w i j : ℕ) (b : Indices) → i < w → b.x0 ≤ i → i < b.x1 → b.y0 ≤ j → j < b.y1 → covers w b (j * w + i) ≡ true
covers-place w i j b narrow x0 x1 y0 y1 =
    rw (mod-mul-add j w i narrow, div-mul-add j w i narrow)
    (rw (le-leb b.x0 i x0, lt-ltb i b.x1 x1, le-leb b.y0 j y0, lt-ltb j b.y1 y1) refl)

-- such a place is there
pub place-within : (w len i j : ℕ) (b : Indices) → IsAmong w len b → i < b.x1 → j < b.y1 → j * w + i < len
place-within w len i j b among column row =
    let rows : (j + 1) * w ≤ b.y1 * w = mul-le-mul_right w (omega (arith, row)) in
    let once : (j + 1) * w ≡ j * w + w = grind arith in
    omega (arith, rows, once, among.rows, among.columns, column)

-- one more column of a row changes
pub column-changed : (w i j : ℕ) (b : Indices) (f : ℕ → ℕ → ℕ) (xs ys zs : List ℕ) → i < w → b.x0 ≤ i
    → Changes (covers w (record b { x1 = i; y0 = j; y1 = j + 1 })) f xs ys → Changes (λ p. p == j * w + i) f ys zs
    → Changes (covers w (record b { x1 = i + 1; y0 = j; y1 = j + 1 })) f xs zs
column-changed w i j b f xs ys zs narrow above first second =
    Changes-then (covers w (record b { x1 = i; y0 = j; y1 = j + 1 })) (λ p. p == j * w + i) (covers w (record b { x1 = i + 1; y0 = j; y1 = j + 1 })) f xs ys zs
    (λ p h. covers-column w i j p b narrow above) (λ p e. column-apart w i j p b narrow e) first second

pub lifted-none : (new old : ℕ) → old ≡ 0 → lifted new old ≡ new
lifted-none new old e = rw (eq-eqb old 0 e) refl

pub lifted-some : (new old : ℕ) → (old ≡ 0 → ⊥) → lifted new old ≡ old
lifted-some new old h = rw (ne_eqb old 0 h) refl

-- a column that has no top gets one
pub column-set : (g : ℕ → ℕ) (xs : List ℕ) (at place v : ℕ) → at ≡ place → at < length xs → get_or xs at 0 ≡ 0 → v ≡ g place → Changes (λ p. p == place) (λ p. lifted (g p)) xs (set xs at v)
column-set g xs at place v same within none is =
    subst (λ q. Changes (λ p. p == q) (λ p. lifted (g p)) xs (set xs at v)) same
    (Changes-set (λ p. lifted (g p)) xs at v within (is ∙ ap g (sym same) ∙ sym (lifted-none (g at) (get_or xs at 0) none)))

-- and one that has a top keeps it
pub column-kept : (g : ℕ → ℕ) (xs : List ℕ) (at place : ℕ) → at ≡ place → (get_or xs at 0 ≡ 0 → ⊥) → Changes (λ p. p == place) (λ p. lifted (g p)) xs xs
column-kept g xs at place same some =
    subst (λ q. Changes (λ p. p == q) (λ p. lifted (g p)) xs xs) same (Changes-keep (λ p. lifted (g p)) xs at (lifted-some (g at) (get_or xs at 0) some))

-- one more row that is covered
pub row-covered : (w j p : ℕ) (b : Indices) (xs : List ℕ) → b.y0 ≤ j → ((q : ℕ) → q < length xs → covers w (record b { y1 = j }) q ≡ true → 0 < get_or xs q 0)
    → ((i : ℕ) → b.x0 ≤ i → i < b.x1 → 0 < get_or xs (j * w + i) 0) → p < length xs → covers w (record b { y1 = j + 1 }) p ≡ true → 0 < get_or xs p 0
row-covered w j p b xs above before here within e = by (cases_lt (p / w) j)
  where
    cell : IsCell w (record b { y1 = j + 1 }) p
    cell = cell-of w p (record b { y1 = j + 1 }) e

    by : (p / w < j) ⊎ (j ≤ p / w) → 0 < get_or xs p 0
    by (inl less) =
        before p within
        (rw (le-leb b.x0 (p % w) cell.column.0, lt-ltb (p % w) b.x1 cell.column.1, le-leb b.y0 (p / w) cell.row.0, lt-ltb (p / w) j less) refl)
    by (inr more) =
        let row : p / w ≡ j = omega (arith, more, cell.row.1) in
        subst (λ q. 0 < get_or xs q 0) (ap (λ r. r * w + p % w) (sym row) ∙ cell.is) (here (p % w) cell.column.0 cell.column.1)

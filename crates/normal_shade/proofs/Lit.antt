-- How pixels change that are lit by their places.
use Rattle.std.proofs.Common.{◌≡◌, ℕ, ◌+◌, ◌*◌, ◌/◌, ◌%◌, ◌<◌, ◌≤◌, Bool, true, false, cond, List, length, get_or, set, refl, sym, ap, ◌∙◌, ◌⊎◌, inl, inr, arith}
use Rattle.std.specs.Prelude.{nat_le, nat_lt, ◌==◌, ◌&&◌, ◌||◌}
use Rattle.std.proofs.lemmas.Bool.{cases_eq, eq-eqb, ne_eqb}
use Rattle.std.proofs.lemmas.Bool.Decides.{nat_tests}
use Rattle.std.proofs.lemmas.List.{get_or-set_other, get_or-set_same, length-set}
use Rattle.view_places.specs.Boxes.{Indices}
use Rattle.height_map.specs.Columns.{Changes, covers}
use Rattle.height_map.proofs.ChangeLaws.{place-is}
use Rattle.normal_shade.specs.Marks.{has_top_at, is_within}

-- the numbers at some places become what they are to be, whatever they were
abbrev pub Becomes : (ℕ → Bool) → (ℕ → ℕ) → List ℕ → List ℕ → Type 0
Becomes c g xs ys = Changes c (λ p old. g p) xs ys

-- none changes
pub lit-none : (c : ℕ → Bool) (g : ℕ → ℕ) (xs : List ℕ) → ((p : ℕ) → c p ≡ false) → Becomes c g xs xs
lit-none c g xs none = record { same = refl; each = λ p h. sym (ap (λ t. cond t (g p) (get_or xs p 0)) (none p)) }

-- the same places
pub lit-places : (c d : ℕ → Bool) (g : ℕ → ℕ) (xs ys : List ℕ) → ((p : ℕ) → c p ≡ d p) → Becomes c g xs ys → Becomes d g xs ys
lit-places c d g xs ys same changed = record {
  same = changed.same;
  each = λ p h. changed.each p h ∙ ap (λ t. cond t (g p) (get_or xs p 0)) (same p);
}

-- the same numbers there
pub lit-numbers : (c : ℕ → Bool) (f g : ℕ → ℕ) (xs ys : List ℕ) → ((p : ℕ) → c p ≡ true → f p ≡ g p) → Becomes c f xs ys → Becomes c g xs ys
lit-numbers c f g xs ys agree changed = record {
  same = changed.same;
  each = λ p h. changed.each p h ∙ by (c p) p refl;
}
  where
    by : (t : Bool) (p : ℕ) → c p ≡ t → cond t (f p) (get_or xs p 0) ≡ cond t (g p) (get_or xs p 0)
    by true p e = agree p e
    by false p e = refl

-- changes at places after those at others
pub lit-then : (c d e : ℕ → Bool) (g : ℕ → ℕ) (xs ys zs : List ℕ) → ((p : ℕ) → e p ≡ (c p || d p)) → Becomes c g xs ys → Becomes d g ys zs → Becomes e g xs zs
lit-then c d e g xs ys zs joined first second = record {
  same = second.same ∙ first.same;
  each = λ p h.
      second.each p (omega (arith, h, first.same))
      ∙ ap (λ old. cond (d p) (g p) old) (first.each p h)
      ∙ either (c p) (d p) p (get_or xs p 0)
      ∙ ap (λ t. cond t (g p) (get_or xs p 0)) (sym (joined p));
}
  where
    either : (s t : Bool) (p old : ℕ) → cond t (g p) (cond s (g p) old) ≡ cond (s || t) (g p) old
    either true true p old = refl
    either true false p old = refl
    either false true p old = refl
    either false false p old = refl

-- one number
pub lit-set : (g : ℕ → ℕ) (xs : List ℕ) (i v : ℕ) → i < length xs → v ≡ g i → Becomes (λ p. p == i) g xs (set xs i v)
lit-set g xs i v within is = record {
  same = length-set xs i v;
  each = λ p h. by p h (cases_eq p i);
}
  where
    by : (p : ℕ) → p < length xs → (p ≡ i) ⊎ (p ≡ i → ⊥) → get_or (set xs i v) p 0 ≡ cond (p == i) (g p) (get_or xs p 0)
    by p h (inl same) = rw (eq-eqb p i same) (ap (λ q. get_or (set xs i v) q 0) same ∙ get_or-set_same xs i v 0 within ∙ is ∙ ap g (sym same))
    by p h (inr other) = rw (ne_eqb p i other) (get_or-set_other xs i p v 0 other)

-- ---- one more column of a row

tests-column : (x0 i j c q : ℕ) → x0 ≤ i
    → (nat_le x0 c && (nat_lt c (i + 1) && (nat_le j q && nat_lt q (j + 1)))) ≡ ((nat_le x0 c && (nat_lt c i && (nat_le j q && nat_lt q (j + 1)))) || (q == j && c == i))
tests-column x0 i j c q above = grind (arith, nat_tests)

pub and-or : (s t u : Bool) → ((s || t) && u) ≡ ((s && u) || (t && u))
and-or true true true = refl
and-or true true false = refl
and-or true false true = refl
and-or true false false = refl
and-or false true true = refl
and-or false true false = refl
and-or false false u = refl

-- the columns of row j of a box on the left of one
abbrev pub left_of : Indices → ℕ → ℕ → Indices
left_of b j i = record b { x1 = i; y0 = j; y1 = j + 1 }

pub column-more : (w i j p : ℕ) (b : Indices) (tops : List ℕ) → i < w → b.x0 ≤ i
    → has_top_at w tops (left_of b j (i + 1)) p ≡ (has_top_at w tops (left_of b j i) p || (p == j * w + i && is_within b (get_or tops p 0)))
column-more w i j p b tops narrow above =
    ap (λ t. t && is_within b (get_or tops p 0))
    (tests-column b.x0 i j (p % w) (p / w) above ∙ ap (λ t. covers w (left_of b j i) p || t) (sym (place-is w i j p narrow)))
    ∙ and-or (covers w (left_of b j i) p) (p == j * w + i) (is_within b (get_or tops p 0))

-- the test at one place
pub at-place : (i p : ℕ) (f : ℕ → Bool) (t : Bool) → f i ≡ t → (p == i && f p) ≡ (p == i && t)
at-place i p f t e = by (cases_eq p i)
  where
    by : (p ≡ i) ⊎ (p ≡ i → ⊥) → (p == i && f p) ≡ (p == i && t)
    by (inl same) = ap (λ u. p == i && u) (ap f same ∙ e)
    by (inr other) = rw (ne_eqb p i other) refl

pub and-true : (t : Bool) → (t && true) ≡ t
and-true true = refl
and-true false = refl

pub and-false : (t : Bool) → (t && false) ≡ false
and-false true = refl
and-false false = refl

pub or-false : (t : Bool) → (t || false) ≡ t
or-false true = refl
or-false false = refl

-- before any column
tests-none : (x j c q : ℕ) → (nat_le x c && (nat_lt c x && (nat_le j q && nat_lt q (j + 1)))) ≡ false
tests-none x j c q = grind (arith, nat_tests)

pub left-none : (w j i p : ℕ) (b : Indices) (tops : List ℕ) → i ≡ b.x0 → has_top_at w tops (left_of b j i) p ≡ false
left-none w j i p b tops start =
    ap (λ t. has_top_at w tops (left_of b j t) p) start ∙ ap (λ t. t && is_within b (get_or tops p 0)) (tests-none b.x0 j (p % w) (p / w))

-- ---- one more row

tests-row : (x0 x1 y0 j c q : ℕ) → y0 ≤ j
    → (nat_le x0 c && (nat_lt c x1 && (nat_le y0 q && nat_lt q (j + 1)))) ≡ ((nat_le x0 c && (nat_lt c x1 && (nat_le y0 q && nat_lt q j))) || (nat_le x0 c && (nat_lt c x1 && (nat_le j q && nat_lt q (j + 1)))))
tests-row x0 x1 y0 j c q above = grind (arith, nat_tests)

pub row-more : (w j p : ℕ) (b : Indices) (tops : List ℕ) → b.y0 ≤ j
    → (has_top_at w tops (record b { y1 = j }) p || has_top_at w tops (record b { y0 = j; y1 = j + 1 }) p) ≡ has_top_at w tops (record b { y1 = j + 1 }) p
row-more w j p b tops above =
    sym (ap (λ t. t && is_within b (get_or tops p 0)) (tests-row b.x0 b.x1 b.y0 j (p % w) (p / w) above)
    ∙ and-or (covers w (record b { y1 = j }) p) (covers w (record b { y0 = j; y1 = j + 1 }) p) (is_within b (get_or tops p 0)))

tests-rows : (x0 x1 y c q : ℕ) → (nat_le x0 c && (nat_lt c x1 && (nat_le y q && nat_lt q y))) ≡ false
tests-rows x0 x1 y c q = grind (arith, nat_tests)

pub rows-none : (w j p : ℕ) (b : Indices) (tops : List ℕ) → j ≡ b.y0 → has_top_at w tops (record b { y1 = j }) p ≡ false
rows-none w j p b tops start =
    ap (λ t. has_top_at w tops (record b { y1 = t }) p) start ∙ ap (λ t. t && is_within b (get_or tops p 0)) (tests-rows b.x0 b.x1 b.y0 (p % w) (p / w))

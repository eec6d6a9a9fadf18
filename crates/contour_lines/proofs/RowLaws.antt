-- Tables that are filled row by row.
use Rattle.std.proofs.Common.{◌≡◌, ℕ, ◌+◌, ◌*◌, ◌<◌, ◌≤◌, Bool, false, List, [], ◌∷◌, ◌++◌, length, get_or, sym, ap, ◌∙◌, ◌⊎◌, inl, inr, arith}
use Rattle.std.proofs.Math.Nat.{mul-le-mul_right}
use Rattle.std.proofs.lemmas.Bool.{cases_lt}
use Rattle.std.proofs.lemmas.List.{get_or-append-add, get_or_append_left, length_push}
use Rattle.contour_lines.specs.Signs.{AreRows, bit_of, signs_by}

-- a place of a row stands before the next row
pub row-before : (w i j rows : ℕ) → i < w → j < rows → j * w + i < rows * w
row-before w i j rows less within =
    let step : (j + 1) * w ≤ rows * w = mul-le-mul_right w (omega (arith, within)) in
    let more : (j + 1) * w ≡ j * w + w = grind arith in
    omega (arith, step, more, less)

pub rows-none : {A : Type 0} (w : ℕ) (f : ℕ → ℕ → A) (d : A) → AreRows w f d 0 0 []
rows-none w f d = record { all = omega arith; each = λ i j less within. absurd (omega (arith, within)); last = λ i less. absurd (omega (arith, less)) }

-- what is pushed stands behind the others
pushed-at : {A : Type 0} (xs : List A) (v d : A) (k : ℕ) → k ≡ length xs → get_or (xs ++ v ∷ []) k d ≡ v
pushed-at xs v d k at =
    let there : k ≡ length xs + 0 = omega (arith, at) in
    ap (λ n. get_or (xs ++ v ∷ []) n d) there ∙ get_or-append-add xs (v ∷ []) 0 d

pub rows-more : {A : Type 0} (w : ℕ) (f : ℕ → ℕ → A) (d v : A) (rows next : ℕ) (xs : List A) → v ≡ f next rows → AreRows w f d rows next xs → AreRows w f d rows (next + 1) (xs ++ v ∷ [])
rows-more w f d v rows next xs is are = record {
  all = omega (arith, length_push xs v, are.all);
  each = λ i j less within. get_or_append_left xs (v ∷ []) d (j * w + i) (omega (arith, are.all, row-before w i j rows less within)) ∙ are.each i j less within;
  last = λ i less. by i (cases_lt i next) less;
}
  where
    by : (i : ℕ) → (i < next) ⊎ (next ≤ i) → i < next + 1 → get_or (xs ++ v ∷ []) (rows * w + i) d ≡ f i rows
    by i (inl below) less = get_or_append_left xs (v ∷ []) d (rows * w + i) (omega (arith, are.all, below)) ∙ are.last i below
    by i (inr above) less =
        let same : next ≡ i = omega (arith, above, less) in
        pushed-at xs v d (rows * w + i) (omega (arith, are.all, same)) ∙ is ∙ ap (λ n. f n rows) same

-- a row that is whole is one of the first
pub rows-next : {A : Type 0} (w : ℕ) (f : ℕ → ℕ → A) (d : A) (rows next : ℕ) (xs : List A) → next ≡ w → AreRows w f d rows next xs → AreRows w f d (rows + 1) 0 xs
rows-next w f d rows next xs whole are = record {
  all = are.all ∙ more;
  each = λ i j less within. by i j (cases_lt j rows) less within;
  last = λ i less. absurd (omega (arith, less));
}
  where
    more : rows * w + next ≡ (rows + 1) * w + 0
    more = rw whole (grind arith)

    by : (i j : ℕ) → (j < rows) ⊎ (rows ≤ j) → i < w → j < rows + 1 → get_or xs (j * w + i) d ≡ f i j
    by i j (inl below) less within = are.each i j less below
    by i j (inr above) less within =
        let same : rows ≡ j = omega (arith, above, within) in
        ap (λ n. get_or xs (n * w + i) d) (sym same) ∙ are.last i (omega (arith, less, whole)) ∙ ap (f i) same

-- the signs of a cell, from those of its two rows of corners
pub signs-is : (n : ℕ) (sides : List Bool) (i j : ℕ) (a b c d : ℕ) → a ≡ bit_of (get_or sides (j * (n + 1) + i) false) → b ≡ bit_of (get_or sides (j * (n + 1) + i + 1) false)
    → c ≡ bit_of (get_or sides (j * (n + 1) + i + (n + 1)) false) → d ≡ bit_of (get_or sides (j * (n + 1) + i + (n + 1) + 1) false)
    → a + 2 * b + 4 * (c + 2 * d) ≡ signs_by n sides i j
signs-is n sides i j a b c d ea eb ec ed = omega (arith, ea, eb, ec, ed)

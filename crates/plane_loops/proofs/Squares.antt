-- Lists joined over the places of a square.
use Rattle.std.proofs.Common.{◌≡◌, ℕ, zero, suc, ◌+◌, ◌*◌, ◌<◌, ◌≤◌, Bool, List, [], ◌++◌, refl, arith, ◌∙◌, ap, sym, inl, inr}
use Rattle.std.specs.Prelude.{◌⊎◌, filter, flat_map, Contains}
use Rattle.std.specs.List.{range_with_len}
use Rattle.std.proofs.lemmas.List.Concat.{flat_map-append}
use Rattle.std.proofs.lemmas.Nat.{div-mul-add, mod-mul-add}
use Rattle.plane_loops.specs.Following.{cell_at}
use Rattle.plane_loops.specs.Planes.{PlanePoint, over_square, point}
use Rattle.fixed_ops.proofs.Lists.{filter_flat, flat_last, flat_none, flat_same, from_flat, from_range, in_flat, in_range, range_append}

-- ---- what a square of lists has

pub in_square : {A : Type 0} (n : ℕ) (at : PlanePoint → List A) (p : PlanePoint) (a : A) → p.x < n → p.y < n → Contains (at p) a → Contains (over_square n at) a
in_square n at p a x y h =
    in_flat _ (range_with_len 0 n) p.y a (in_range 0 n p.y (omega arith) (omega (arith, y)))
    (in_flat _ (range_with_len 0 n) p.x a (in_range 0 n p.x (omega arith) (omega (arith, x))) h)

-- an element over a square stands at one of its places
pub record HasPlace {A : Type 0} (n : ℕ) (at : PlanePoint → List A) (a : A) : Type 0 where
  pub place : PlanePoint
  pub x : place.x < n
  pub y : place.y < n
  pub has : Contains (at place) a

pub from_square : {A : Type 0} (n : ℕ) (at : PlanePoint → List A) (a : A) → Contains (over_square n at) a → HasPlace n at a
from_square n at a h =
    let row = from_flat _ (range_with_len 0 n) a h in
    let cell = from_flat _ (range_with_len 0 n) a row.2 in
    let y = from_range 0 n row.0 row.1 in
    let x = from_range 0 n cell.0 cell.1 in
    record { place = point cell.0 row.0; x = omega (arith, x); y = omega (arith, y); has = cell.2 }

-- ---- equal squares, empty rows and columns, and filters

-- a square whose last row and last column are empty
pub trimmed : {A : Type 0} (n : ℕ) (at : PlanePoint → List A) → ((x y : ℕ) → x ≤ n → y ≤ n → (x ≡ n) ⊎ (y ≡ n) → at (point x y) ≡ []) → over_square (n + 1) at ≡ over_square n at
trimmed n at none =
    flat_last _ 0 n (flat_none _ 0 (n + 1) (λ x fx. none x (0 + n) (omega (arith, fx)) (omega arith) (inr (omega arith))))
    ∙ flat_same _ _ 0 n (λ y fy. flat_last _ 0 n (none (0 + n) y (omega arith) (omega (arith, fy)) (inl (omega arith))))

pub square_same : {A : Type 0} (n : ℕ) (at by : PlanePoint → List A) → ((x y : ℕ) → x < n → y < n → at (point x y) ≡ by (point x y)) → over_square n at ≡ over_square n by
square_same n at by same =
    flat_same _ _ 0 n (λ y fy. flat_same _ _ 0 n (λ x fx. same x y (omega (arith, fx)) (omega (arith, fy))))

pub filter_square : {A : Type 0} (p : A → Bool) (n : ℕ) (at : PlanePoint → List A) → filter p (over_square n at) ≡ over_square n (λ q. filter p (at q))
filter_square p n at =
    filter_flat p _ (range_with_len 0 n) ∙ flat_same _ _ 0 n (λ y fy. filter_flat p _ (range_with_len 0 n))

-- ---- the places one after the other

pub cell_is : (n x y : ℕ) → x < n → cell_at n (y * n + x) ≡ point x y
cell_is n x y few = rw (mod-mul-add y n x few, div-mul-add y n x few) refl

row_flat : {A : Type 0} (n y : ℕ) (at : PlanePoint → List A) (x more : ℕ) → x + more ≤ n → flat_map (λ x. at (point x y)) (range_with_len x more) ≡ flat_map (λ k. at (cell_at n k)) (range_with_len (y * n + x) more)
row_flat n y at x zero few = refl
row_flat n y at x (suc more) few =
    let e : (y * n + x) + 1 ≡ y * n + (x + 1) = omega arith in
    let first : at (cell_at n (y * n + x)) ≡ at (point x y) = ap at (cell_is n x y (omega (arith, few))) in
    let rest = row_flat n y at (x + 1) more (omega (arith, few)) in
    let shifted = ap (λ s. flat_map (λ k. at (cell_at n k)) (range_with_len s more)) e in
    ap (λ xs. at (point x y) ++ xs) (rest ∙ sym shifted) ∙ ap (λ xs. xs ++ flat_map (λ k. at (cell_at n k)) (range_with_len ((y * n + x) + 1) more)) (sym first)

rows_flat : {A : Type 0} (n : ℕ) (at : PlanePoint → List A) (y more : ℕ) → flat_map (λ y. flat_map (λ x. at (point x y)) (range_with_len 0 n)) (range_with_len y more) ≡ flat_map (λ k. at (cell_at n k)) (range_with_len (y * n) (more * n))
rows_flat n at y zero = let e : zero * n ≡ zero = omega arith in rw e refl
rows_flat n at y (suc more) =
    let f = λ (k : ℕ). at (cell_at n k) in
    let e : suc more * n ≡ n + more * n = omega arith in
    let s : y * n + n ≡ (y + 1) * n = omega arith in
    let z : y * n + 0 ≡ y * n = omega arith in
    let row = row_flat n y at 0 n (omega arith) ∙ ap (λ a. flat_map f (range_with_len a n)) z in
    let rest = rows_flat n at (y + 1) more ∙ ap (λ a. flat_map f (range_with_len a (more * n))) (sym s) in
    ap (λ xs. xs ++ flat_map (λ y. flat_map (λ x. at (point x y)) (range_with_len 0 n)) (range_with_len (y + 1) more)) row
    ∙ ap (λ xs. flat_map f (range_with_len (y * n) n) ++ xs) rest
    ∙ sym (flat_map-append f (range_with_len (y * n) n) (range_with_len (y * n + n) (more * n)))
    ∙ ap (flat_map f) (sym (range_append (y * n) n (more * n)))
    ∙ ap (λ m. flat_map f (range_with_len (y * n) m)) (sym e)

pub square_flat : {A : Type 0} (n : ℕ) (at : PlanePoint → List A) → over_square n at ≡ flat_map (λ k. at (cell_at n k)) (range_with_len 0 (n * n))
square_flat n at = let z : 0 * n ≡ 0 = omega arith in rows_flat n at 0 n ∙ ap (λ a. flat_map (λ k. at (cell_at n k)) (range_with_len a (n * n))) z

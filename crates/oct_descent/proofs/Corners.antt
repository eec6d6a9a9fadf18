-- The corners of a cell, one after another.
use Rattle.std.proofs.Common.{◌≡◌, ℕ, zero, suc, ◌+◌, ◌-◌, ◌%◌, ◌<◌, ◌≤◌, ℤ, Bool, true, false, refl, sym, ap, subst, ◌∙◌, ◌⊎◌, inl, inr, arith}
use Rattle.std.specs.Prelude.{Option, Some, None, is_some, nat_lt, not, unwrap_or}
use Rattle.std.proofs.lemmas.Bool.{cases_lt, false≢true, not-false, not-true, or_cases, or_parts}
use Rattle.std.proofs.lemmas.Bool.Decides.{nat_tests}
use Rattle.kuhn_cells.specs.Triangles.{GridPoint, further, point}
use Rattle.view_places.specs.Boxes.{Indices, IsBox}
use Rattle.box_chains.specs.Chains.{is_long}
use Rattle.fixed_ops.specs.Raw.{is_inside}
use Rattle.oct_descent.specs.Corners.{AllShow, IsSeen, LacksCorner, ShowsCorner, side_seen}
use Rattle.oct_descent.specs.Tables.{PointValues, is_known, known_at}
use Rattle.oct_descent.specs.Ways.{Covers}
use Rattle.oct_descent.specs.declared.seen.Seen.{Seen}
use Rattle.oct_descent.specs.Known.{AllKnown}
use Rattle.oct_descent.specs.Kinds.{known_of}

-- what is not known is none
pub none-is : (o : Option ℤ) (t : Bool) → is_some o ≡ not t → t ≡ true → o ≡ None
none-is None t told e = refl
none-is (Some v) t told e = absurd (false≢true (sym (told ∙ ap not e)))

-- and what is not so is known
pub known-is : (o : Option ℤ) (t : Bool) → is_some o ≡ not t → t ≡ false → is_known o ≡ true
known-is None t told e = absurd (false≢true (told ∙ ap not e))
known-is (Some v) t told e = refl

-- a box of one cell
pub record IsOne (b : Indices) : Type 0 where
  pub x : b.x1 ≡ b.x0 + 1
  pub y : b.y1 ≡ b.y0 + 1
  pub z : b.z1 ≡ b.z0 + 1

-- a box of cells none of whose sides is longer than 1 is one cell
pub short-one : (b : Indices) → IsBox b → is_long 1 b ≡ false → IsOne b
short-one b is e =
    let x = or_parts (nat_lt 1 (b.x1 - b.x0)) _ e in
    let yz = or_parts (nat_lt 1 (b.y1 - b.y0)) (nat_lt 1 (b.z1 - b.z0)) x.1 in
    record { x = side b.x0 b.x1 is.x x.0; y = side b.y0 b.y1 is.y yz.0; z = side b.z0 b.z1 is.z yz.1 }
  where
    side : (low high : ℕ) → low < high → nat_lt 1 (high - low) ≡ false → high ≡ low + 1
    side low high some short = grind (arith, nat_tests, some, short)

-- a corner of a cell, by its mask
pub record IsCorner (b : Indices) (p : GridPoint) : Type 0 where
  pub mask : ℕ
  pub few : mask < 8
  pub at : further (point b.x0 b.y0 b.z0) mask ≡ p

-- an index from one on, and at most one more, is one of the two
pub one-or-two : (low i : ℕ) → low ≤ i → i ≤ low + 1 → (i ≡ low + 0) ⊎ (i ≡ low + 1)
one-or-two low i a b = by (i - low) refl
  where
    by : (n : ℕ) → i - low ≡ n → (i ≡ low + 0) ⊎ (i ≡ low + 1)
    by zero e = inl (omega (arith, e, a))
    by (suc n) e = inr (omega (arith, e, a, b))

pub corner-mask : (b : Indices) (p : GridPoint) → IsOne b → Covers b p → IsCorner b p
corner-mask b p one covers =
    by (one-or-two b.x0 p.x covers.x.0 (omega (arith, covers.x.1, one.x))) (one-or-two b.y0 p.y covers.y.0 (omega (arith, covers.y.1, one.y))) (one-or-two b.z0 p.z covers.z.0 (omega (arith, covers.z.1, one.z)))
  where
    same : (x y z : ℕ) → p.x ≡ x → p.y ≡ y → p.z ≡ z → point x y z ≡ p
    same x y z ex ey ez = sym (ap (λ (i : ℕ). point i p.y p.z) ex ∙ ap (λ (j : ℕ). point x j p.z) ey ∙ ap (λ (k : ℕ). point x y k) ez)

    by : (p.x ≡ b.x0 + 0) ⊎ (p.x ≡ b.x0 + 1) → (p.y ≡ b.y0 + 0) ⊎ (p.y ≡ b.y0 + 1) → (p.z ≡ b.z0 + 0) ⊎ (p.z ≡ b.z0 + 1) → IsCorner b p
    by (inl x) (inl y) (inl z) = record { mask = 0; few = omega arith; at = same _ _ _ x y z }
    by (inr x) (inl y) (inl z) = record { mask = 1; few = omega arith; at = same _ _ _ x y z }
    by (inl x) (inr y) (inl z) = record { mask = 2; few = omega arith; at = same _ _ _ x y z }
    by (inr x) (inr y) (inl z) = record { mask = 3; few = omega arith; at = same _ _ _ x y z }
    by (inl x) (inl y) (inr z) = record { mask = 4; few = omega arith; at = same _ _ _ x y z }
    by (inr x) (inl y) (inr z) = record { mask = 5; few = omega arith; at = same _ _ _ x y z }
    by (inl x) (inr y) (inr z) = record { mask = 6; few = omega arith; at = same _ _ _ x y z }
    by (inr x) (inr y) (inr z) = record { mask = 7; few = omega arith; at = same _ _ _ x y z }

bit-least : (n : ℕ) → n % 2 ≤ 1
bit-least n = omega arith

-- a corner of a cell is covered
pub mask-covered : (b : Indices) (c : ℕ) → IsOne b → Covers b (further (point b.x0 b.y0 b.z0) c)
mask-covered b c one = record {
  x = (omega arith, omega (arith, one.x));
  y = (omega arith, omega (arith, one.y));
  z = (omega arith, omega (arith, one.z));
}

-- where all eight corners are known, all points that the cell covers are
pub all-known : (b : Indices) (t : PointValues) → IsOne b → ((c : ℕ) → c < 8 → is_known (known_at t (further (point b.x0 b.y0 b.z0) c)) ≡ true) → AllKnown (known_of t) b
all-known b t one known p covers =
    let corner = corner-mask b p one covers in
    subst (λ q. is_known (known_at t q) ≡ true) corner.at (known corner.mask corner.few)

-- what the first known corners of a cell show
pub record IsSeenTo (t : PointValues) (p : GridPoint) (n : ℕ) (seen : Seen) : Type 0 where
  pub all : seen.all ≡ true → (c : ℕ) → c < n → is_known (known_at t (further p c)) ≡ true
  pub lacks : seen.all ≡ false → LacksCorner t p
  pub inside : seen.inside ≡ true → ShowsCorner t p true
  pub none_inside : seen.inside ≡ false → AllShow t p n false
  pub outside : seen.outside ≡ true → ShowsCorner t p false
  pub none_outside : seen.outside ≡ false → AllShow t p n true

-- no corner shows that all are known
pub seen-none : (t : PointValues) (p : GridPoint) → IsSeenTo t p 0 (record { all = true; inside = false; outside = false })
seen-none t p = record {
  all = λ e c less. absurd (omega (arith, less));
  lacks = λ e. absurd (false≢true (sym e));
  inside = λ e. absurd (false≢true e);
  none_inside = λ e c v less known. absurd (omega (arith, less));
  outside = λ e. absurd (false≢true e);
  none_outside = λ e c v less known. absurd (omega (arith, less));
}

-- and all eight of them show what the cell shows
pub seen-all : (t : PointValues) (p : GridPoint) (n : ℕ) (seen : Seen) → 8 ≤ n → IsSeenTo t p n seen → IsSeen t p seen
seen-all t p n seen most so = record {
  all = λ e c few. so.all e c (omega (arith, few, most));
  lacks = so.lacks;
  inside = so.inside;
  none_inside = λ e c v few. so.none_inside e c v (omega (arith, few, most));
  outside = so.outside;
  none_outside = λ e c v few. so.none_outside e c v (omega (arith, few, most));
}

-- and with one more
pub seen-more : (t : PointValues) (p : GridPoint) (n : ℕ) (seen : Seen) (o : Option ℤ) → n < 8 → o ≡ known_at t (further p n) → IsSeenTo t p n seen → IsSeenTo t p (n + 1) (side_seen seen o)
seen-more t p n seen None few is so = record {
  all = λ e. absurd (false≢true e);
  lacks = λ e. record { corner = n; few = few; unknown = ap is_known (sym is) };
  inside = so.inside;
  none_inside = λ e. stays false (so.none_inside e);
  outside = so.outside;
  none_outside = λ e. stays true (so.none_outside e);
}
  where
    stays : (inside : Bool) → AllShow t p n inside → AllShow t p (n + 1) inside
    stays inside show c v less known = by (cases_lt c n)
      where
        by : (c < n) ⊎ (n ≤ c) → is_inside v ≡ inside
        by (inl below) = show c v below known
        by (inr above) =
            let same : n ≡ c = omega (arith, above, less) in
            absurd (false≢true (ap is_known (is ∙ ap (λ k. known_at t (further p k)) same ∙ known)))
seen-more t p n seen (Some v) few is so = record {
  all = λ e c less. by e c less (cases_lt c n);
  lacks = so.lacks;
  inside = λ e. inner (or_cases seen.inside (is_inside v) e);
  none_inside = λ e. let parts = or_parts seen.inside (is_inside v) e in joins false (so.none_inside parts.0) parts.1;
  outside = λ e. outer (or_cases seen.outside (not (is_inside v)) e);
  none_outside = λ e. let parts = or_parts seen.outside (not (is_inside v)) e in joins true (so.none_outside parts.0) (not-false (is_inside v) parts.1);
}
  where
    by : seen.all ≡ true → (c : ℕ) → c < n + 1 → (c < n) ⊎ (n ≤ c) → is_known (known_at t (further p c)) ≡ true
    by e c less (inl below) = so.all e c below
    by e c less (inr above) =
        let same : n ≡ c = omega (arith, above, less) in
        ap (λ k. is_known (known_at t (further p k))) (sym same) ∙ ap is_known (sym is)

    inner : (seen.inside ≡ true) ⊎ (is_inside v ≡ true) → ShowsCorner t p true
    inner (inl e) = so.inside e
    inner (inr e) = record { corner = n; few = few; value = v; known = sym is; side = e }

    outer : (seen.outside ≡ true) ⊎ (not (is_inside v) ≡ true) → ShowsCorner t p false
    outer (inl e) = so.outside e
    outer (inr e) = record { corner = n; few = few; value = v; known = sym is; side = not-true (is_inside v) e }

    joins : (inside : Bool) → AllShow t p n inside → is_inside v ≡ inside → AllShow t p (n + 1) inside
    joins inside show here c w less known = on (cases_lt c n)
      where
        on : (c < n) ⊎ (n ≤ c) → is_inside w ≡ inside
        on (inl below) = show c w below known
        on (inr above) =
            let same : n ≡ c = omega (arith, above, less) in
            let value : v ≡ w = ap (λ o. unwrap_or o w) (is ∙ ap (λ k. known_at t (further p k)) same ∙ known) in
            ap is_inside (sym value) ∙ here

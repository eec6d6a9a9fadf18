-- The corners of a cell, one after another.
use Rattle.std.proofs.Common.{◌≡◌, ℕ, ◌+◌, ◌/◌, ◌%◌, ◌<◌, ◌≤◌, ℤ, Bool, true, false, sym, ap, subst, ◌∙◌, ◌⊎◌, inl, inr, arith}
use Rattle.std.specs.Prelude.{Option, Some, None, not, unwrap_or}
use Rattle.std.proofs.lemmas.Bool.{cases_lt, false≢true, not-false, not-true, or_cases, or_parts}
use Rattle.kuhn_cells.specs.Triangles.{GridPoint, further, point}
use Rattle.view_places.specs.Boxes.{Indices, IsBox}
use Rattle.view_places.specs.Spans.{IsInRoot}
use Rattle.view_places.specs.Window.{Window}
use Rattle.view_places.specs.declared.lattice.Lattice.TheVariants as lattices
use Rattle.box_chains.specs.Chains.{is_long}
use Rattle.box_chains.specs.Sums.{LiesIn, Sample}
use Rattle.fixed_ops.specs.Raw.{is_inside}
use Rattle.oct_descent.specs.Kinds.{low_cell}
use Rattle.oct_descent.specs.Known.{AllKnown, Known}
use Rattle.oct_descent.specs.Tables.{is_known}
use Rattle.oct_descent.specs.Ways.{Covers}
use Rattle.contour_lines.specs.Corners.{AllShow, IsSeen, LacksCorner, ShowsCorner, side_seen}
use Rattle.contour_lines.specs.Ways.{cell_square, floor_of}
use Rattle.contour_lines.specs.declared.seen.Seen.{Seen}
use Rattle.oct_descent.proofs.Corners.{IsOne, one-or-two, short-one}

-- a box of the lowest cells, whose floor is the plane
pub record IsLow (b : Indices) : Type 0 where
  pub one : IsOne b
  pub low : b.z0 ≡ 0

-- a corner of a cell, by its mask
pub record IsCorner (b : Indices) (p : GridPoint) : Type 0 where
  pub mask : ℕ
  pub few : mask < 4
  pub at : further (point b.x0 b.y0 0) mask ≡ p

pub corner-mask : (b : Indices) (p : GridPoint) → IsLow b → Covers (floor_of b) p → IsCorner b p
corner-mask b p is covers =
    by (one-or-two b.x0 p.x covers.x.0 (omega (arith, covers.x.1, is.one.x))) (one-or-two b.y0 p.y covers.y.0 (omega (arith, covers.y.1, is.one.y)))
  where
    low : p.z ≡ 0 + 0
    low = omega (arith, covers.z.1, is.low)

    same : (x y z : ℕ) → p.x ≡ x → p.y ≡ y → p.z ≡ z → point x y z ≡ p
    same x y z ex ey ez = sym (ap (λ (i : ℕ). point i p.y p.z) ex ∙ ap (λ (j : ℕ). point x j p.z) ey ∙ ap (λ (k : ℕ). point x y k) ez)

    by : (p.x ≡ b.x0 + 0) ⊎ (p.x ≡ b.x0 + 1) → (p.y ≡ b.y0 + 0) ⊎ (p.y ≡ b.y0 + 1) → IsCorner b p
    by (inl x) (inl y) = record { mask = 0; few = omega arith; at = same _ _ _ x y low }
    by (inr x) (inl y) = record { mask = 1; few = omega arith; at = same _ _ _ x y low }
    by (inl x) (inr y) = record { mask = 2; few = omega arith; at = same _ _ _ x y low }
    by (inr x) (inr y) = record { mask = 3; few = omega arith; at = same _ _ _ x y low }

-- a corner of a cell is covered
pub mask-covered : (b : Indices) (c : ℕ) → c < 4 → IsLow b → Covers (floor_of b) (further (point b.x0 b.y0 0) c)
mask-covered b c few is = record {
  x = (omega arith, omega (arith, is.one.x));
  y = (omega arith, omega (arith, is.one.y));
  z = (omega (arith, is.low), omega (arith, is.low, few));
}

-- what the floor of a cell covers the box of the cell does
pub floor-covers : (b : Indices) (p : GridPoint) → IsOne b → Covers (floor_of b) p → Covers b p
floor-covers b p one covers = record { x = covers.x; y = covers.y; z = (covers.z.0, omega (arith, covers.z.1, one.z)) }

-- where all four corners are known, all points of the floor are
pub all-known : (b : Indices) (t : Known) → IsLow b → ((c : ℕ) → c < 4 → is_known (t.at (further (point b.x0 b.y0 0) c)) ≡ true) → AllKnown t (floor_of b)
all-known b t is known p covers =
    let corner = corner-mask b p is covers in
    subst (λ q. is_known (t.at q) ≡ true) corner.at (known corner.mask corner.few)

-- what the first known corners of a cell show
pub record IsSeenTo (t : Known) (p : GridPoint) (n : ℕ) (seen : Seen) : Type 0 where
  pub all : seen.all ≡ true → (c : ℕ) → c < n → is_known (t.at (further p c)) ≡ true
  pub lacks : seen.all ≡ false → LacksCorner t p
  pub inside : seen.inside ≡ true → ShowsCorner t p true
  pub none_inside : seen.inside ≡ false → AllShow t p n false
  pub outside : seen.outside ≡ true → ShowsCorner t p false
  pub none_outside : seen.outside ≡ false → AllShow t p n true

-- no corner shows that all are known
pub seen-none : (t : Known) (p : GridPoint) → IsSeenTo t p 0 (record { all = true; inside = false; outside = false })
seen-none t p = record {
  all = λ e c less. absurd (omega (arith, less));
  lacks = λ e. absurd (false≢true (sym e));
  inside = λ e. absurd (false≢true e);
  none_inside = λ e c v less known. absurd (omega (arith, less));
  outside = λ e. absurd (false≢true e);
  none_outside = λ e c v less known. absurd (omega (arith, less));
}

-- and all four of them show what the cell shows
pub seen-all : (t : Known) (p : GridPoint) (n : ℕ) (seen : Seen) → 4 ≤ n → IsSeenTo t p n seen → IsSeen t p seen
seen-all t p n seen most so = record {
  all = λ e c few. so.all e c (omega (arith, few, most));
  lacks = so.lacks;
  inside = so.inside;
  none_inside = λ e c v few. so.none_inside e c v (omega (arith, few, most));
  outside = so.outside;
  none_outside = λ e c v few. so.none_outside e c v (omega (arith, few, most));
}

-- and with one more
pub seen-more : (t : Known) (p : GridPoint) (n : ℕ) (seen : Seen) (o : Option ℤ) → n < 4 → o ≡ t.at (further p n) → IsSeenTo t p n seen → IsSeenTo t p (n + 1) (side_seen seen o)
seen-more t p n seen None few is so = record {
  all = λ e. absurd (false≢true e);
  lacks = λ e. record { corner = n; few = few; unknown = ap is_known (sym is) };
  inside = so.inside;
  none_inside = λ e. stays false (so.none_inside e);
  outside = so.outside;
  none_outside = λ e. stays true (so.none_outside e);
}
  where
    stays : (inside : Bool) → AllShow t p n inside → AllShow t p (n + 1) inside
    stays inside show c v less known = by (cases_lt c n)
      where
        by : (c < n) ⊎ (n ≤ c) → is_inside v ≡ inside
        by (inl below) = show c v below known
        by (inr above) =
            let same : n ≡ c = omega (arith, above, less) in
            absurd (false≢true (ap is_known (is ∙ ap (λ k. t.at (further p k)) same ∙ known)))
seen-more t p n seen (Some v) few is so = record {
  all = λ e c less. by e c less (cases_lt c n);
  lacks = so.lacks;
  inside = λ e. inner (or_cases seen.inside (is_inside v) e);
  none_inside = λ e. let parts = or_parts seen.inside (is_inside v) e in joins false (so.none_inside parts.0) parts.1;
  outside = λ e. outer (or_cases seen.outside (not (is_inside v)) e);
  none_outside = λ e. let parts = or_parts seen.outside (not (is_inside v)) e in joins true (so.none_outside parts.0) (not-false (is_inside v) parts.1);
}
  where
    by : seen.all ≡ true → (c : ℕ) → c < n + 1 → (c < n) ⊎ (n ≤ c) → is_known (t.at (further p c)) ≡ true
    by e c less (inl below) = so.all e c below
    by e c less (inr above) =
        let same : n ≡ c = omega (arith, above, less) in
        ap (λ k. is_known (t.at (further p k))) (sym same) ∙ ap is_known (sym is)

    inner : (seen.inside ≡ true) ⊎ (is_inside v ≡ true) → ShowsCorner t p true
    inner (inl e) = so.inside e
    inner (inr e) = record { corner = n; few = few; value = v; known = sym is; side = e }

    outer : (seen.outside ≡ true) ⊎ (not (is_inside v) ≡ true) → ShowsCorner t p false
    outer (inl e) = so.outside e
    outer (inr e) = record { corner = n; few = few; value = v; known = sym is; side = not-true (is_inside v) e }

    joins : (inside : Bool) → AllShow t p n inside → is_inside v ≡ inside → AllShow t p (n + 1) inside
    joins inside show here c w less known = on (cases_lt c n)
      where
        on : (c < n) ⊎ (n ≤ c) → is_inside w ≡ inside
        on (inl below) = show c w below known
        on (inr above) =
            let same : n ≡ c = omega (arith, above, less) in
            let value : v ≡ w = ap (λ o. unwrap_or o w) (is ∙ ap (λ k. t.at (further p k)) same ∙ known) in
            ap is_inside (sym value) ∙ here

-- the floor of a box of one cell has exactly the corners of the cell
pub square-floor : (b : Indices) (s : Sample) (p : GridPoint) → IsOne b → LiesIn b s → Covers (cell_square s) p → Covers (floor_of b) p
square-floor b s p one lies covers = record {
  x = (omega (arith, lies.x, covers.x), omega (arith, lies.x, covers.x));
  y = (omega (arith, lies.y, covers.y), omega (arith, lies.y, covers.y));
  z = (omega (arith, lies.z, covers.z), omega (arith, lies.z, covers.z, one.z));
}

pub floor-square : (b : Indices) (p : GridPoint) → IsOne b → Covers (floor_of b) p → Covers (cell_square (low_cell b)) p
floor-square b p one covers = record {
  x = (covers.x.0, omega (arith, covers.x.1, one.x));
  y = (covers.y.0, omega (arith, covers.y.1, one.y));
  z = covers.z;
}

-- a cell of a grid that is one cell high is one of the lowest
pub low-is : (view : Window) (b : Indices) → IsBox b → IsInRoot view lattices.Grid b → view.nz ≡ 1 → is_long 1 b ≡ false → IsLow b
low-is view b is within flat short = record { one = short-one b is short; low = omega (arith, is.z, within.z, flat) }

-- a corner of a cell of the plane, by its mask
pub corner-is : (x y c : ℕ) → c < 4 → point (x + c % 2) (y + c / 2) 0 ≡ further (point x y 0) c
corner-is x y c few =
    let high : y + c / 2 ≡ y + c / 2 % 2 = omega (arith, few) in
    let low : 0 ≡ 0 + c / 4 % 2 = omega (arith, few) in
    ap (λ (j : ℕ). point (x + c % 2) j 0) high ∙ ap (λ (k : ℕ). point (x + c % 2) (y + c / 2 % 2) k) low

-- The vertices of a bordered grid, and the cells beside them.
use Rattle.std.proofs.Common.{◌≡◌, ℕ, ◌+◌, ◌<◌, ◌≤◌, Bool, true, false, List, [], ◌∷◌, refl, arith, ◌∙◌, ap, subst, sym, inl, inr}
use Rattle.std.specs.Prelude.{◌⊎◌, ◌==◌, ◌||◌, map, filter, All}
use Rattle.std.proofs.lemmas.Bool.{and_from, and_parts, cases_eq, eq-eqb, false≢true, le-leb, leb-true, or_left, or_right}
use Rattle.std.proofs.lemmas.List.Elements.{All-cons, All-nil}
use Rattle.kuhn_cells.specs.Arrangement.{differ}
use Rattle.kuhn_cells.specs.Corners.{along_x, along_y}
use Rattle.plane_loops.specs.Following.{left_triangle}
use Rattle.plane_loops.specs.Planes.{IsBordered, PlaneEdge, PlaneGrid, PlanePoint, directions, edge_from, further, is_border, is_inside_at, is_mixed, is_point, lower, mixed_edges, over_square, point, upper}
use Rattle.plane_loops.proofs.NextLaws.{IsIn, IsLeaving}
use Rattle.plane_loops.proofs.Squares.{filter_square, square_same, trimmed}
use Rattle.plane_loops.proofs.TurnLaws.{each_dir}
use Rattle.fixed_ops.proofs.Lists.{all_kept, none_left}

-- ---- inside points lie within the border

border_x_first : (n : ℕ) (p : PlanePoint) → p.x ≡ 0 → is_border n p ≡ true
border_x_first n p e = or_left (p.x == 0 || p.x == n) (p.y == 0 || p.y == n) (or_left (p.x == 0) (p.x == n) (eq-eqb p.x 0 e))

border_x_last : (n : ℕ) (p : PlanePoint) → p.x ≡ n → is_border n p ≡ true
border_x_last n p e = or_left (p.x == 0 || p.x == n) (p.y == 0 || p.y == n) (or_right (p.x == 0) (p.x == n) (eq-eqb p.x n e))

border_y_first : (n : ℕ) (p : PlanePoint) → p.y ≡ 0 → is_border n p ≡ true
border_y_first n p e = or_right (p.x == 0 || p.x == n) (p.y == 0 || p.y == n) (or_left (p.y == 0) (p.y == n) (eq-eqb p.y 0 e))

border_y_last : (n : ℕ) (p : PlanePoint) → p.y ≡ n → is_border n p ≡ true
border_y_last n p e = or_right (p.x == 0 || p.x == n) (p.y == 0 || p.y == n) (or_right (p.y == 0) (p.y == n) (eq-eqb p.y n e))

pub record IsWithin (n index : ℕ) : Type 0 where
  pub low : 1 ≤ index
  pub high : index < n

pub record IsInner (n : ℕ) (p : PlanePoint) : Type 0 where
  pub x : IsWithin n p.x
  pub y : IsWithin n p.y

is_within : (n index : ℕ) → index ≤ n → (index ≡ 0 → ⊥) → (index ≡ n → ⊥) → IsWithin n index
is_within n index most first last = by (cases_eq index 0) (cases_eq index n)
  where
    by : (index ≡ 0) ⊎ (index ≡ 0 → ⊥) → (index ≡ n) ⊎ (index ≡ n → ⊥) → IsWithin n index
    by (inl e) f = absurd (first e)
    by (inr e) (inl f) = absurd (last f)
    by (inr e) (inr f) = record { low = omega (arith, e); high = omega (arith, f, most) }

point_is : (g : PlaneGrid) (p : PlanePoint) → p.x ≤ g.n → p.y ≤ g.n → is_point g p ≡ true
point_is g p x y = and_from _ _ (le-leb p.x g.n x) (le-leb p.y g.n y)

pub inner : (g : PlaneGrid) → IsBordered g → (p : PlanePoint) → p.x ≤ g.n → p.y ≤ g.n → is_inside_at g p ≡ true → IsInner g.n p
inner g border p x y h =
    let out : is_border g.n p ≡ true → ⊥ = λ b. false≢true (sym (border.outside p (point_is g p x y) b) ∙ h) in
    record {
      x = is_within g.n p.x x (λ e. out (border_x_first g.n p e)) (λ e. out (border_x_last g.n p e));
      y = is_within g.n p.y y (λ e. out (border_y_first g.n p e)) (λ e. out (border_y_last g.n p e));
    }

-- ---- edges that hold a vertex

-- an edge that holds a vertex starts at a cell of the grid
pub record IsVertex (g : PlaneGrid) (e : PlaneEdge) : Type 0 where
  pub x : e.x < g.n
  pub y : e.y < g.n
  pub some : 1 ≤ e.dir
  pub few : e.dir ≤ 3
  pub mixed : is_mixed (is_inside_at g) e ≡ true

pub other_inside : (a b : Bool) → differ a b ≡ true → a ≡ false → b ≡ true
other_inside true b h e = absurd (false≢true (sym e))
other_inside false b h e = h

pub record StartsWithin (n : ℕ) (e : PlaneEdge) : Type 0 where
  pub x : e.x < n
  pub y : e.y < n

pub starts_within : (g : PlaneGrid) → IsBordered g → (e : PlaneEdge) → e.x ≤ g.n → e.y ≤ g.n → (upper e).x ≤ g.n → (upper e).y ≤ g.n → is_mixed (is_inside_at g) e ≡ true → StartsWithin g.n e
starts_within g border e x y ux uy mixed = by (is_inside_at g (lower e)) refl
  where
    by : (b : Bool) → is_inside_at g (lower e) ≡ b → StartsWithin g.n e
    by true h =
        let i = inner g border (lower e) x y h in
        record { x = i.x.high; y = i.y.high }
    by false h =
        let i = inner g border (upper e) ux uy (other_inside (is_inside_at g (lower e)) (is_inside_at g (upper e)) mixed h) in
        let ix = i.x.high in
        let iy = i.y.high in
        record { x = omega (arith, ix); y = omega (arith, iy) }

record FitsBack (dir : ℕ) (low : Bool) (e : PlaneEdge) : Type 0 where
  x : (left_triangle dir low).back_x ≤ e.x
  y : (left_triangle dir low).back_y ≤ e.y

pub leaving : (g : PlaneGrid) → IsBordered g → (e : PlaneEdge) → IsVertex g e → IsLeaving (is_inside_at g) e
leaving g border e v =
    let b = back (is_inside_at g (lower e)) refl in
    record { some = v.some; few = v.few; mixed = v.mixed; back_x = b.x; back_y = b.y }
  where
    below_x : e.x ≤ g.n
    below_x = let h = v.x in omega (arith, h)

    below_y : e.y ≤ g.n
    below_y = let h = v.y in omega (arith, h)

    upper_x : (upper e).x ≤ g.n
    upper_x = let h = v.x in omega (arith, h)

    upper_y : (upper e).y ≤ g.n
    upper_y = let h = v.y in omega (arith, h)

    back : (b : Bool) → is_inside_at g (lower e) ≡ b → FitsBack e.dir (is_inside_at g (lower e)) e
    back true h =
        let i = inner g border (lower e) below_x below_y h in
        let ix = i.x.low in
        let iy = i.y.low in
        subst (λ (s : Bool). FitsBack e.dir s e) (sym h) (each_dir (λ d. FitsBack d true e)
        (record { x = omega arith; y = omega arith })
        (record { x = omega (arith, ix); y = omega arith })
        (record { x = omega arith; y = omega arith }) e.dir v.some v.few)
    back false h =
        let high = other_inside (is_inside_at g (lower e)) (is_inside_at g (upper e)) v.mixed h in
        let i = inner g border (upper e) upper_x upper_y high in
        subst (λ (s : Bool). FitsBack e.dir s e) (sym h) (each_dir (λ d. 1 ≤ e.y + along_y d → FitsBack d false e)
        (λ k. record { x = omega arith; y = omega (arith, k) })
        (λ k. record { x = omega arith; y = omega arith })
        (λ k. record { x = omega arith; y = omega arith }) e.dir v.some v.few i.y.low)

-- an edge of a cell of the grid that holds a vertex
pub in_cell : (g : PlaneGrid) → IsBordered g → (cell : PlanePoint) (e : PlaneEdge) → cell.x < g.n → cell.y < g.n → IsIn (is_inside_at g) cell e → IsVertex g e
in_cell g border cell e x y h =
    let lx = h.low_x in
    let ly = h.low_y in
    let hx = h.high_x in
    let hy = h.high_y in
    let s = starts_within g border e (omega (arith, x, lx)) (omega (arith, y, ly)) (omega (arith, x, hx)) (omega (arith, y, hy)) h.mixed in
    record { x = s.x; y = s.y; some = h.some; few = h.few; mixed = h.mixed }

-- ---- the vertices, cell by cell

from_point : PlanePoint → List PlaneEdge
from_point p = map (edge_from p) directions

all_from : (P : PlaneEdge → Type 0) (p : PlanePoint) → ((dir : ℕ) → P (edge_from p dir)) → All P (from_point p)
unfolding from_point
all_from P p each =
    All-cons P (edge_from p 1) (edge_from p 2 ∷ edge_from p 3 ∷ []) (each 1) (All-cons P (edge_from p 2) (edge_from p 3 ∷ []) (each 2) (All-cons P (edge_from p 3) [] (each 3) (All-nil P)))

-- the edges from a point that hold a vertex
abbrev pub own : (PlanePoint → Bool) → PlanePoint → List PlaneEdge
own inside p = filter (is_mixed inside) (map (edge_from p) directions)

same_side : (b c : Bool) → b ≡ false → c ≡ false → differ b c ≡ false
same_side b c e f = rw (e, f) refl

last_is : (g : PlaneGrid) (p : PlanePoint) → (p.x ≡ g.n) ⊎ (p.y ≡ g.n) → is_border g.n p ≡ true
last_is g p (inl e) = border_x_last g.n p e
last_is g p (inr e) = border_y_last g.n p e

outer_edge : (g : PlaneGrid) → IsBordered g → (p : PlanePoint) (dir : ℕ) → p.x ≤ g.n → p.y ≤ g.n → (p.x ≡ g.n) ⊎ (p.y ≡ g.n) → is_point g (further p dir) ≡ true → is_mixed (is_inside_at g) (edge_from p dir) ≡ false
outer_edge g border p dir x y last h =
    let parts = and_parts _ _ h in
    let fx = leb-true (p.x + along_x dir) g.n parts.0 in
    let fy = leb-true (p.y + along_y dir) g.n parts.1 in
    same_side (is_inside_at g p) (is_inside_at g (further p dir)) (border.outside p (point_is g p x y) (last_is g p last)) (border.outside (further p dir) h (last_is g (further p dir) (on (along_x dir) (along_y dir) fx fy last)))
  where
    on : (a b : ℕ) → p.x + a ≤ g.n → p.y + b ≤ g.n → (p.x ≡ g.n) ⊎ (p.y ≡ g.n) → (p.x + a ≡ g.n) ⊎ (p.y + b ≡ g.n)
    on a b fx fy (inl e) = inl (omega (arith, e, fx))
    on a b fx fy (inr e) = inr (omega (arith, e, fy))

pub mixed_is : (g : PlaneGrid) → IsBordered g → mixed_edges g ≡ over_square g.n (own (is_inside_at g))
unfolding mixed_edges from_point
mixed_is g border =
    let within = λ (e : PlaneEdge). is_point g (upper e) in
    let mixed = is_mixed (is_inside_at g) in
    ap (filter mixed) (filter_square within (g.n + 1) from_point)
    ∙ filter_square mixed (g.n + 1) (λ p. filter within (from_point p))
    ∙ trimmed g.n (λ p. filter mixed (filter within (from_point p))) (λ x y fx fy last.
    none_left mixed within (from_point (point x y)) (all_from (λ e. within e ≡ true → mixed e ≡ false) (point x y) (λ d. outer_edge g border (point x y) d fx fy last)))
    ∙ square_same g.n (λ p. filter mixed (filter within (from_point p))) (own (is_inside_at g)) (λ x y fx fy.
    ap (filter mixed) (all_kept within (from_point (point x y)) (all_from (λ e. within e ≡ true) (point x y) (λ d. point_is g (further (point x y) d) (omega (arith, fx)) (omega (arith, fy))))))

-- The inside lies on the left of each segment.
use Rattle.std.proofs.Common.{◌≡◌, ℕ, ◌+◌, ◌-◌, ◌*◌, ◌<◌, ◌≤◌, ℤ, pos, ◌*ℤ◌, Bool, true, false, refl, arith, ◌∙◌, ap, subst, sym, inl, inr}
use Rattle.std.specs.Prelude.{◌⊎◌, ◌/◌, ◌%◌, ◌-ℤ◌, ◌<ℤ◌, max, min, if◌then◌else◌}
use Rattle.std.proofs.lemmas.Bool.{cases_lt}
use Rattle.std.proofs.lemmas.Int.{ints}
use Rattle.std.proofs.Math.Nat.{mul-le-mul_left}
use Rattle.kuhn_cells.specs.Corners.{along_x, along_y}
use Rattle.plane_loops.specs.Following.{left_triangle}
use Rattle.plane_loops.specs.Planes.{PlaneEdge, PlaneGrid, PlanePoint, further, is_inside_at, lower, share, upper, value_at}
use Rattle.plane_loops.specs.Segments.{Segment, cell_segments, edge_between, segments}
use Rattle.plane_loops.specs.Sides.{HasInsideLeft, InsideIsLeft, PlanePlace, determinant_at, point_place}
use Rattle.plane_loops.proofs.NextLaws.{IsPair, are_pairs, point_same}
use Rattle.plane_loops.proofs.Squares.{from_square}
use Rattle.plane_loops.proofs.TurnLaws.{HasTurn, each_dir, side, turn_of}
use Rattle.mesh_laws.proofs.Lattice.{IsShare, way_is_share}
use Rattle.mesh_laws.proofs.Determinants.{diff, diff_is, diff_mul, diff_sub}

-- ---- differences of natural numbers

diff_above : (a b : ℕ) → b < a → pos 0 <ℤ diff a b
diff_above a b h = omega (arith, ints, h, diff_is a b)

-- a way between two places of a cell does not depend on where the cell lies
way_is : (base q p : ℕ) → pos (base + q) -ℤ pos (base + p) ≡ diff q p
unfolding diff
way_is base q p = omega (arith, ints)

abbrev pub place : ℕ → ℕ → PlanePlace
place x y = record { x = pos x; y = pos y }

-- the determinant is above 0 where what is added in it is more than what is taken away
above : (x y px py qx qy rx ry : ℕ) → qx * py + (px * ry + qy * rx) < qx * ry + (px * qy + py * rx) → pos 0 <ℤ determinant_at (place (x + px) (y + py)) (place (x + qx) (y + qy)) (place (x + rx) (y + ry))
above x y px py qx qy rx ry h =
    let P : ℤ → Type 0 = λ d. pos 0 <ℤ d in
    let e = ap (λ a. (a *ℤ (pos (y + ry) -ℤ pos (y + py))) -ℤ ((pos (y + qy) -ℤ pos (y + py)) *ℤ (pos (x + rx) -ℤ pos (x + px)))) (way_is x qx px)
    ∙ ap (λ b. (diff qx px *ℤ b) -ℤ ((pos (y + qy) -ℤ pos (y + py)) *ℤ (pos (x + rx) -ℤ pos (x + px)))) (way_is y ry py)
    ∙ ap (λ b. (diff qx px *ℤ diff ry py) -ℤ (b *ℤ (pos (x + rx) -ℤ pos (x + px)))) (way_is y qy py)
    ∙ ap (λ b. (diff qx px *ℤ diff ry py) -ℤ (diff qy py *ℤ b)) (way_is x rx px)
    ∙ ap (λ b. b -ℤ (diff qy py *ℤ diff rx px)) (diff_mul qx px ry py)
    ∙ ap (λ b. diff (qx * ry + px * py) (qx * py + px * ry) -ℤ b) (diff_mul qy py rx px)
    ∙ diff_sub (qx * ry + px * py) (qx * py + px * ry) (qy * rx + py * px) (qy * px + py * rx) in
    subst P (sym e) (diff_above _ _ (omega (arith, h)))

-- ---- shares of edges

is_share : (g : PlaneGrid) (e : PlaneEdge) → IsShare (share g e)
is_share g e = way_is_share (value_at g (lower e)) (value_at g (upper e))

product_some : (a b : ℕ) → 1 ≤ a → 1 ≤ b → 1 ≤ a * b
product_some a b h k = let e = mul-le-mul_left a k in omega (arith, e, h)

-- ---- places within a cell

-- the place between two corners of a cell, relative to the cell, and that of a corner
abbrev between_x : ℕ → ℕ → ℕ → ℕ
between_x a b t = 65536 * (min a b % 2) + t * ((max a b - min a b) % 2)

abbrev between_y : ℕ → ℕ → ℕ → ℕ
between_y a b t = 65536 * (min a b / 2 % 2) + t * ((max a b - min a b) / 2 % 2)

abbrev corner_x : ℕ → ℕ
corner_x c = 65536 * (c % 2)

abbrev corner_y : ℕ → ℕ
corner_y c = 65536 * (c / 2 % 2)

-- a corner lies on the left of the way from a place between two corners to a place between two others
abbrev LeftOf : ℕ → ℕ → ℕ → ℕ → ℕ → ℕ → ℕ → Type 0
LeftOf a b t c d u r =
    between_x c d u * between_y a b t + (between_x a b t * corner_y r + between_y c d u * corner_x r)
    < between_x c d u * corner_y r + (between_x a b t * between_y c d u + between_y a b t * corner_x r)

-- products of two shares and of what they leave
record HasProducts (t u : ℕ) : Type 0 where
  rest_t : ℕ
  rest_u : ℕ
  whole_t : t + rest_t ≡ 65536
  whole_u : u + rest_u ≡ 65536
  both : 1 ≤ t * u
  first : 1 ≤ t * rest_u
  second : 1 ≤ rest_t * u
  neither : 1 ≤ rest_t * rest_u
  sum_u : t * u + rest_t * u ≡ 65536 * u
  sum_t : t * u + t * rest_u ≡ 65536 * t
  sum_rest_u : t * rest_u + rest_t * rest_u ≡ 65536 * rest_u

products : (t u : ℕ) → IsShare t → IsShare u → HasProducts t u
products t u h k =
    let ts = h.some in
    let tf = h.few in
    let us = k.some in
    let uf = k.few in
    let v = 65536 - t in
    let w = 65536 - u in
    let e : t + v ≡ 65536 = omega (arith, tf) in
    let f : u + w ≡ 65536 = omega (arith, uf) in
    let vs : 1 ≤ v = omega (arith, tf) in
    let ws : 1 ≤ w = omega (arith, uf) in
    by v w e f vs ws
  where
    by : (v w : ℕ) → t + v ≡ 65536 → u + w ≡ 65536 → 1 ≤ v → 1 ≤ w → HasProducts t u
    by v w e f vs ws =
        let a = ap (λ m. m * u) e in
        let b = ap (λ m. t * m) f in
        let c = ap (λ m. m * w) e in
        record {
          rest_t = v;
          rest_u = w;
          whole_t = e;
          whole_u = f;
          both = product_some t u h.some k.some;
          first = product_some t w h.some ws;
          second = product_some v u vs k.some;
          neither = product_some v w vs ws;
          sum_u = omega (arith, a);
          sum_t = omega (arith, b);
          sum_rest_u = omega (arith, c);
        }

-- the two places and the inside ends of a segment, by the row of its triangle and by whether the third corner is inside
record LeftRow (dir : ℕ) (low third : Bool) (t u : ℕ) : Type 0 where
  at_from : LeftOf (left_triangle dir low).a (left_triangle dir low).b t (left_triangle dir low).c (if third then (left_triangle dir low).b else (left_triangle dir low).a) u (left_triangle dir low).a
  at_to : LeftOf (left_triangle dir low).a (left_triangle dir low).b t (left_triangle dir low).c (if third then (left_triangle dir low).b else (left_triangle dir low).a) u (if third then (left_triangle dir low).c else (left_triangle dir low).a)

left_row : (t u dir : ℕ) (low third : Bool) → HasProducts t u → 1 ≤ dir → dir ≤ 3 → LeftRow dir low third t u
left_row t u dir true true p some few =
    each_dir (λ d. LeftRow d true true t u) (record { at_from = omega (arith, p); at_to = omega (arith, p) }) (record { at_from = omega (arith, p); at_to = omega (arith, p) }) (record { at_from = omega (arith, p); at_to = omega (arith, p) }) dir some few
left_row t u dir true false p some few =
    each_dir (λ d. LeftRow d true false t u) (record { at_from = omega (arith, p); at_to = omega (arith, p) }) (record { at_from = omega (arith, p); at_to = omega (arith, p) }) (record { at_from = omega (arith, p); at_to = omega (arith, p) }) dir some few
left_row t u dir false true p some few =
    each_dir (λ d. LeftRow d false true t u) (record { at_from = omega (arith, p); at_to = omega (arith, p) }) (record { at_from = omega (arith, p); at_to = omega (arith, p) }) (record { at_from = omega (arith, p); at_to = omega (arith, p) }) dir some few
left_row t u dir false false p some few =
    each_dir (λ d. LeftRow d false false t u) (record { at_from = omega (arith, p); at_to = omega (arith, p) }) (record { at_from = omega (arith, p); at_to = omega (arith, p) }) (record { at_from = omega (arith, p); at_to = omega (arith, p) }) dir some few

-- ---- from the cell to the grid

-- the place at a share of an edge
abbrev place_on : PlaneEdge → ℕ → PlanePlace
place_on e t = place (65536 * e.x + t * along_x e.dir) (65536 * e.y + t * along_y e.dir)

place_same : (x y v w : ℕ) → x ≡ v → y ≡ w → place x y ≡ place v w
place_same x y v w e f = rw (e, f) refl

on_between : (cell : PlanePoint) (a b t : ℕ) → place_on (edge_between cell a b) t ≡ place (65536 * cell.x + between_x a b t) (65536 * cell.y + between_y a b t)
on_between cell a b t = place_same _ _ _ _ (omega arith) (omega arith)

on_corner : (cell : PlanePoint) (c : ℕ) → point_place (further cell c) ≡ place (65536 * cell.x + corner_x c) (65536 * cell.y + corner_y c)
on_corner cell c = place_same _ _ _ _ (omega arith) (omega arith)

-- the inside end of an edge between two corners
inner_first : (inside : PlanePoint → Bool) (cell : PlanePoint) (a b : ℕ) → IsPair a b → side inside cell a ≡ true → side inside cell b ≡ false → (if inside (lower (edge_between cell a b)) then lower (edge_between cell a b) else upper (edge_between cell a b)) ≡ further cell a
inner_first inside cell a b pair p q = by (cases_lt a b)
  where
    high : upper (edge_between cell a b) ≡ further cell (max a b)
    high = let hx = pair.along_x in let hy = pair.along_y in point_same _ _ _ _ (omega (arith, hx)) (omega (arith, hy))

    by : (a < b) ⊎ (b ≤ a) → (if inside (lower (edge_between cell a b)) then lower (edge_between cell a b) else upper (edge_between cell a b)) ≡ further cell a
    by (inl less) =
        let m : min a b ≡ a = omega (arith, less) in
        ap (λ (k : ℕ). if inside (further cell k) then further cell k else upper (edge_between cell a b)) m ∙ ap (λ (s : Bool). if s then further cell a else upper (edge_between cell a b)) p
    by (inr most) =
        let m : min a b ≡ b = omega (arith, most) in
        let n : max a b ≡ a = omega (arith, most) in
        ap (λ (k : ℕ). if inside (further cell k) then further cell k else upper (edge_between cell a b)) m ∙ ap (λ (s : Bool). if s then further cell b else upper (edge_between cell a b)) q ∙ high ∙ ap (further cell) n

inner_second : (inside : PlanePoint → Bool) (cell : PlanePoint) (a b : ℕ) → IsPair a b → side inside cell a ≡ false → side inside cell b ≡ true → (if inside (lower (edge_between cell a b)) then lower (edge_between cell a b) else upper (edge_between cell a b)) ≡ further cell b
inner_second inside cell a b pair p q = by (cases_lt a b)
  where
    high : upper (edge_between cell a b) ≡ further cell (max a b)
    high = let hx = pair.along_x in let hy = pair.along_y in point_same _ _ _ _ (omega (arith, hx)) (omega (arith, hy))

    by : (a < b) ⊎ (b ≤ a) → (if inside (lower (edge_between cell a b)) then lower (edge_between cell a b) else upper (edge_between cell a b)) ≡ further cell b
    by (inl less) =
        let m : min a b ≡ a = omega (arith, less) in
        let n : max a b ≡ b = omega (arith, less) in
        ap (λ (k : ℕ). if inside (further cell k) then further cell k else upper (edge_between cell a b)) m ∙ ap (λ (s : Bool). if s then further cell a else upper (edge_between cell a b)) p ∙ high ∙ ap (further cell) n
    by (inr most) =
        let m : min a b ≡ b = omega (arith, most) in
        ap (λ (k : ℕ). if inside (further cell k) then further cell k else upper (edge_between cell a b)) m ∙ ap (λ (s : Bool). if s then further cell b else upper (edge_between cell a b)) q

-- a segment between corners of a cell has such a corner on its left
left_in : (cell : PlanePoint) (a b t c d u r : ℕ) (p q v : PlanePlace) → p ≡ place_on (edge_between cell a b) t → q ≡ place_on (edge_between cell c d) u → v ≡ point_place (further cell r) → LeftOf a b t c d u r → pos 0 <ℤ determinant_at p q v
left_in cell a b t c d u r p q v pe qe ve h =
    let e = pe ∙ on_between cell a b t in
    let f = qe ∙ on_between cell c d u in
    let k = ve ∙ on_corner cell r in
    let x = 65536 * cell.x in
    let y = 65536 * cell.y in
    let A : PlanePlace → Type 0 = λ z. pos 0 <ℤ determinant_at z q v in
    let B : PlanePlace → Type 0 = λ z. pos 0 <ℤ determinant_at (place (x + between_x a b t) (y + between_y a b t)) z v in
    let C : PlanePlace → Type 0 = λ z. pos 0 <ℤ determinant_at (place (x + between_x a b t) (y + between_y a b t)) (place (x + between_x c d u) (y + between_y c d u)) z in
    subst A (sym e) (subst B (sym f) (subst C (sym k) (above x y (between_x a b t) (between_y a b t) (between_x c d u) (between_y c d u) (corner_x r) (corner_y r) h)))

pub inside_is_left : InsideIsLeft
unfolding segments
inside_is_left g border s h =
    let inside = is_inside_at g in
    let at = from_square g.n (cell_segments inside) s h in
    let k = turn_of inside at.place s at.has in
    by at.place k (side inside at.place (left_triangle k.dir k.low).c) refl
  where
    by : (cell : PlanePoint) (k : HasTurn (is_inside_at g) cell s) (third : Bool) → side (is_inside_at g) cell (left_triangle k.dir k.low).c ≡ third → HasInsideLeft g s
    by cell k third third_is =
        let inside = is_inside_at g in
        let tri = left_triangle k.dir k.low in
        let turn = k.turn in
        let pairs = are_pairs k.dir k.low k.some k.few in
        let t = share g s.from in
        let u = share g s.to in
        let row = left_row t u k.dir k.low third (products t u (is_share g s.from) (is_share g s.to)) k.some k.few in
        let from : s.from ≡ edge_between cell tri.a tri.b = ap (λ (r : Segment). r.from) (sym turn.is_segment) in
        let to : s.to ≡ edge_between cell tri.c (if third then tri.b else tri.a) = ap (λ (r : Segment). r.to) (sym turn.is_segment) ∙ ap (λ (z : Bool). edge_between cell tri.c (if z then tri.b else tri.a)) third_is in
        let p = ap (λ (e : PlaneEdge). place_on e t) from in
        let q = ap (λ (e : PlaneEdge). place_on e u) to in
        let first = ap (λ (e : PlaneEdge). if inside (lower e) then lower e else upper e) from ∙ inner_first inside cell tri.a tri.b pairs.first_second turn.inner turn.outer in
        let second = ap (λ (e : PlaneEdge). if inside (lower e) then lower e else upper e) to ∙ end_inner cell tri.a tri.b tri.c third third_is turn.inner turn.outer pairs.third_first pairs.third_second in
        record {
          at_from = left_in cell tri.a tri.b t tri.c (if third then tri.b else tri.a) u tri.a _ _ _ p q (ap point_place first) row.at_from;
          at_to = left_in cell tri.a tri.b t tri.c (if third then tri.b else tri.a) u (if third then tri.c else tri.a) _ _ _ p q (ap point_place second) row.at_to;
        }
      where
        end_inner : (cell : PlanePoint) (a b c : ℕ) (third : Bool) → side (is_inside_at g) cell c ≡ third → side (is_inside_at g) cell a ≡ true → side (is_inside_at g) cell b ≡ false → IsPair c a → IsPair c b → (if is_inside_at g (lower (edge_between cell c (if third then b else a))) then lower (edge_between cell c (if third then b else a)) else upper (edge_between cell c (if third then b else a))) ≡ further cell (if third then c else a)
        end_inner cell a b c true is p q ca cb = inner_first (is_inside_at g) cell c b cb is q
        end_inner cell a b c false is p q ca cb = inner_second (is_inside_at g) cell c a ca is p

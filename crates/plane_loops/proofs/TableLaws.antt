-- What a table of the signs of cells tells of a grid.
use Rattle.std.proofs.Common.{◌≡◌, ℕ, zero, suc, ◌+◌, ◌*◌, ◌/◌, ◌%◌, ◌<◌, ◌≤◌, Bool, true, false, List, refl, arith, ◌∙◌, ap, subst, sym, get_or}
use Rattle.std.specs.Prelude.{map}
use Rattle.std.proofs.Math.Nat.{div-lt_iff_lt-mul}
use Rattle.std.proofs.lemmas.List.FromFn.{get_or-map-range_with_len}
use Rattle.std.proofs.lemmas.Nat.{div-add-mod', mod_below}
use Rattle.kuhn_cells.specs.Arrangement.{differ}
use Rattle.kuhn_cells.specs.Triangles.{has_sign}
use Rattle.plane_loops.specs.declared.left_triangle.LeftTriangle.{LeftTriangle}
use Rattle.plane_loops.specs.Following.{cell_at, cell_before, edges_at, edges_before, left_triangle, next_by, opposite_edge, place_of, triangle_by}
use Rattle.plane_loops.specs.Planes.{IsBordered, PlaneEdge, PlaneGrid, PlanePoint, edge_from, further, is_inside_at, is_mixed, lower, mixed_edges}
use Rattle.plane_loops.specs.Steps.{HasNext, IsInGrid}
use Rattle.plane_loops.specs.Tables.{one_if, signs_at}
use Rattle.plane_loops.specs.WorkedOut.{signs_of}
use Rattle.plane_loops.proofs.GridLaws.{IsVertex, in_cell, leaving, mixed_is, own}
use Rattle.plane_loops.proofs.NextLaws.{are_pairs, ends_in, left_of, next_in, point_same, sides_of}
use Rattle.plane_loops.proofs.NumberLaws.{flag, kept, place_less}
use Rattle.plane_loops.proofs.Squares.{cell_is, square_flat}
use Rattle.plane_loops.proofs.TurnLaws.{each_dir}
use Rattle.fixed_ops.proofs.Lists.{flat_same}

-- ---- one byte

record HasBits (signs : ℕ) (a b c d : Bool) : Type 0 where
  at_0 : has_sign signs 0 ≡ a
  at_1 : has_sign signs 1 ≡ b
  at_2 : has_sign signs 2 ≡ c
  at_3 : has_sign signs 3 ≡ d

abbrev byte : Bool → Bool → Bool → Bool → ℕ
byte a b c d = one_if a + 2 * one_if b + 4 * one_if c + 8 * one_if d

has_bits : (a b c d : Bool) → HasBits (byte a b c d) a b c d
has_bits true true true true = record { at_0 = refl; at_1 = refl; at_2 = refl; at_3 = refl }
has_bits true true true false = record { at_0 = refl; at_1 = refl; at_2 = refl; at_3 = refl }
has_bits true true false true = record { at_0 = refl; at_1 = refl; at_2 = refl; at_3 = refl }
has_bits true true false false = record { at_0 = refl; at_1 = refl; at_2 = refl; at_3 = refl }
has_bits true false true true = record { at_0 = refl; at_1 = refl; at_2 = refl; at_3 = refl }
has_bits true false true false = record { at_0 = refl; at_1 = refl; at_2 = refl; at_3 = refl }
has_bits true false false true = record { at_0 = refl; at_1 = refl; at_2 = refl; at_3 = refl }
has_bits true false false false = record { at_0 = refl; at_1 = refl; at_2 = refl; at_3 = refl }
has_bits false true true true = record { at_0 = refl; at_1 = refl; at_2 = refl; at_3 = refl }
has_bits false true true false = record { at_0 = refl; at_1 = refl; at_2 = refl; at_3 = refl }
has_bits false true false true = record { at_0 = refl; at_1 = refl; at_2 = refl; at_3 = refl }
has_bits false true false false = record { at_0 = refl; at_1 = refl; at_2 = refl; at_3 = refl }
has_bits false false true true = record { at_0 = refl; at_1 = refl; at_2 = refl; at_3 = refl }
has_bits false false true false = record { at_0 = refl; at_1 = refl; at_2 = refl; at_3 = refl }
has_bits false false false true = record { at_0 = refl; at_1 = refl; at_2 = refl; at_3 = refl }
has_bits false false false false = record { at_0 = refl; at_1 = refl; at_2 = refl; at_3 = refl }

pub sign_is : (inside : PlanePoint → Bool) (cell : PlanePoint) (c : ℕ) → c ≤ 3 → has_sign (signs_at inside cell) c ≡ inside (further cell c)
sign_is inside cell zero few = (has_bits (inside (further cell 0)) (inside (further cell 1)) (inside (further cell 2)) (inside (further cell 3))).at_0
sign_is inside cell (suc zero) few = (has_bits (inside (further cell 0)) (inside (further cell 1)) (inside (further cell 2)) (inside (further cell 3))).at_1
sign_is inside cell (suc (suc zero)) few = (has_bits (inside (further cell 0)) (inside (further cell 1)) (inside (further cell 2)) (inside (further cell 3))).at_2
sign_is inside cell (suc (suc (suc zero))) few = (has_bits (inside (further cell 0)) (inside (further cell 1)) (inside (further cell 2)) (inside (further cell 3))).at_3
sign_is inside cell (suc (suc (suc (suc c)))) few = absurd (omega (arith, few))

-- ---- a table

-- a table has the signs of each cell of a bordered grid
pub record HasSigns (g : PlaneGrid) (signs : List ℕ) : Type 0 where
  pub border : IsBordered g
  pub sides : (cell : PlanePoint) → cell.x < g.n → cell.y < g.n → get_or signs (place_of g.n cell) 0 ≡ signs_at (is_inside_at g) cell

at_sign : (g : PlaneGrid) (signs : List ℕ) → HasSigns g signs → (cell : PlanePoint) → cell.x < g.n → cell.y < g.n → (c : ℕ) → c ≤ 3 → has_sign (get_or signs (place_of g.n cell) 0) c ≡ is_inside_at g (further cell c)
at_sign g signs h cell x y c few = ap (λ s. has_sign s c) (h.sides cell x y) ∙ sign_is (is_inside_at g) cell c few

pub start_is : (p : PlanePoint) → further p 0 ≡ p
start_is p = point_same _ _ _ _ (omega arith) (omega arith)

pub flag_same : (g : PlaneGrid) (signs : List ℕ) → HasSigns g signs → (e : PlaneEdge) → IsInGrid g.n e → flag (get_or signs (place_of g.n (lower e)) 0) e.dir ≡ is_mixed (is_inside_at g) e
flag_same g signs h e k =
    let s = get_or signs (place_of g.n (lower e)) 0 in
    let inside = is_inside_at g in
    ap (λ b. differ b (has_sign s e.dir)) (at_sign g signs h (lower e) k.x k.y 0 (omega arith) ∙ ap inside (start_is (lower e)))
    ∙ ap (differ (inside (lower e))) (at_sign g signs h (lower e) k.x k.y e.dir k.few)

-- ---- the edges that hold a vertex

kept_map : (p : PlanePoint) (a b c : Bool) → kept (edge_from p 1) (edge_from p 2) (edge_from p 3) a b c ≡ map (edge_from p) (kept 1 2 3 a b c)
kept_map p true true true = refl
kept_map p true true false = refl
kept_map p true false true = refl
kept_map p true false false = refl
kept_map p false true true = refl
kept_map p false true false = refl
kept_map p false false true = refl
kept_map p false false false = refl

kept_same : (x y z : PlaneEdge) (a b c i j k : Bool) → i ≡ a → j ≡ b → k ≡ c → kept x y z a b c ≡ kept x y z i j k
kept_same x y z a b c i j k p q r = rw (p, q, r) refl

own_is : (g : PlaneGrid) (signs : List ℕ) → HasSigns g signs → (k : ℕ) → k < g.n * g.n → own (is_inside_at g) (cell_at g.n k) ≡ edges_at g.n signs k
own_is g signs h k few =
    let p = cell_at g.n k in
    let s = get_or signs k 0 in
    let inside = is_inside_at g in
    let place : k / g.n * g.n + k % g.n ≡ k = div-add-mod' k g.n in
    let some : 0 < g.n = positive g.n k few in
    let y = (div-lt_iff_lt-mul {k = g.n} {x = k} {y = g.n} some).1 few in
    let each : (d : ℕ) → 1 ≤ d → d ≤ 3 → flag s d ≡ is_mixed inside (edge_from p d) =
    λ d low high. ap (λ i. flag (get_or signs i 0) d) (sym place) ∙ flag_same g signs h (edge_from p d) (record { x = mod_below k g.n some; y = y; some = low; few = high }) in
    kept_same (edge_from p 1) (edge_from p 2) (edge_from p 3) _ _ _ (flag s 1) (flag s 2) (flag s 3) (each 1 (omega arith) (omega arith)) (each 2 (omega arith) (omega arith)) (each 3 (omega arith) (omega arith))
    ∙ kept_map p (flag s 1) (flag s 2) (flag s 3)
  where
    positive : (n k : ℕ) → k < n * n → 0 < n
    positive zero k few = absurd (omega (arith, few))
    positive (suc n) k few = omega arith

pub edges_are : (g : PlaneGrid) (signs : List ℕ) → HasSigns g signs → mixed_edges g ≡ edges_before g.n signs (g.n * g.n)
unfolding edges_before
edges_are g signs h =
    mixed_is g h.border ∙ square_flat g.n (own (is_inside_at g)) ∙ flat_same (λ k. own (is_inside_at g) (cell_at g.n k)) (edges_at g.n signs) 0 (g.n * g.n) (λ k few. own_is g signs h k (omega (arith, few)))

-- ---- the next edge

pub triangle_is : (g : PlaneGrid) (signs : List ℕ) → HasSigns g signs → (e : PlaneEdge) → IsVertex g e → triangle_by g.n signs e ≡ left_of (is_inside_at g) e
triangle_is g signs h e v =
    ap (left_triangle e.dir) (at_sign g signs h (lower e) v.x v.y 0 (omega arith) ∙ ap (is_inside_at g) (start_is (lower e)))

small_third : (dir : ℕ) (low : Bool) → 1 ≤ dir → dir ≤ 3 → (left_triangle dir low).c ≤ 3
small_third dir true some few = each_dir (λ d. (left_triangle d true).c ≤ 3) (omega arith) (omega arith) (omega arith) dir some few
small_third dir false some few = each_dir (λ d. (left_triangle d false).c ≤ 3) (omega arith) (omega arith) (omega arith) dir some few

pub next_is : (g : PlaneGrid) (signs : List ℕ) → HasSigns g signs → (e : PlaneEdge) → IsVertex g e → next_by g.n signs e ≡ next_in (is_inside_at g) e
unfolding next_by
next_is g signs h e v =
    let t = left_of (is_inside_at g) e in
    let cell = cell_before e t in
    let x = v.x in
    let y = v.y in
    ap (λ (t : LeftTriangle). opposite_edge (cell_before e t) t (has_sign (get_or signs (place_of g.n (cell_before e t)) 0) t.c)) (triangle_is g signs h e v)
    ∙ ap (opposite_edge cell t) (at_sign g signs h cell (omega (arith, x)) (omega (arith, y)) t.c (small_third e.dir (is_inside_at g (lower e)) v.some v.few))

-- the next edge holds a vertex too
pub next_vertex : (g : PlaneGrid) → IsBordered g → (e : PlaneEdge) → IsVertex g e → IsVertex g (next_in (is_inside_at g) e)
next_vertex g border e v =
    let inside = is_inside_at g in
    let t = left_of inside e in
    let cell = cell_before e t in
    let x = v.x in
    let y = v.y in
    in_cell g border cell (next_in inside e) (omega (arith, x)) (omega (arith, y)) (ends_in inside cell t (are_pairs e.dir (inside (lower e)) v.some v.few) (sides_of inside e (leaving g border e v)))

pub in_grid : (g : PlaneGrid) (e : PlaneEdge) → IsVertex g e → IsInGrid g.n e
in_grid g e v = record { x = v.x; y = v.y; some = v.some; few = v.few }

pub has_next : (g : PlaneGrid) (signs : List ℕ) → HasSigns g signs → (e : PlaneEdge) → IsVertex g e → HasNext g.n signs e
has_next g signs h e v =
    let left = leaving g h.border e v in
    let same = sym (triangle_is g signs h e v) in
    record {
      here = in_grid g e v;
      left = subst (λ (t : LeftTriangle). t.back_x ≤ e.x) same left.back_x;
      below = subst (λ (t : LeftTriangle). t.back_y ≤ e.y) same left.back_y;
      next = subst (IsInGrid g.n) (sym (next_is g signs h e v)) (in_grid g _ (next_vertex g h.border e v));
    }

-- ---- each grid has such a table

pub has_signs : (g : PlaneGrid) → IsBordered g → HasSigns g (signs_of g)
has_signs g border =
    record {
      border = border;
      sides = λ cell x y.
          get_or-map-range_with_len (λ k. signs_at (is_inside_at g) (cell_at g.n k)) 0 (g.n * g.n) (place_of g.n cell) (place_of g.n cell) 0 (place_less g.n cell.x cell.y x y) (omega arith) ∙ ap (signs_at (is_inside_at g)) (cell_is g.n cell.x cell.y x);
    }

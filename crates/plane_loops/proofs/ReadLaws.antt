-- What the code reads off its tables.
use Rattle.std.proofs.Common.{◌≡◌, ℕ, zero, suc, ◌+◌, ◌-◌, ◌*◌, ◌/◌, ◌%◌, ◌<◌, ◌≤◌, ℤ, pos, Bool, true, false, List, [], ◌∷◌, ◌++◌, refl, arith, ◌∙◌, ap, subst, sym, length, get_or}
use Rattle.std.specs.Prelude.{All, flat_map, map, max, min, if◌then◌else◌}
use Rattle.std.specs.List.{range_with_len}
use Rattle.std.proofs.Math.Nat.{div-lt_iff_lt-mul, mul-le-mul_left}
use Rattle.std.proofs.lemmas.List.{append_assoc, get_or_default, length-map, map-append}
use Rattle.std.proofs.lemmas.List.FromFn.{get_or-map-range_with_len, length-map-range_with_len, map-range_with_len_more}
use Rattle.std.proofs.lemmas.Nat.{mod_below}
use Rattle.kuhn_cells.specs.Triangles.{has_sign}
use Rattle.mesh_laws.specs.Places.{way_up}
use Rattle.plane_loops.specs.declared.left_triangle.LeftTriangle.{LeftTriangle}
use Rattle.plane_loops.specs.declared.plane_vertex.PlaneVertex.{PlaneVertex}
use Rattle.plane_loops.specs.Following.{cell_at, edges_at, edges_before, if_mixed, left_triangle, mixed_directions, next_by, number_by, rank_of, vertex_by}
use Rattle.plane_loops.specs.Planes.{PlaneEdge, PlanePoint, edge_from}
use Rattle.plane_loops.specs.Steps.{bases_of}
use Rattle.plane_loops.proofs.NextLaws.{edge}
use Rattle.plane_loops.proofs.NumberLaws.{before_more, few_before, flag, kept, place_less, split_at}
use Rattle.fixed_ops.proofs.Lists.{all_left, all_right}

pub long_bases : (n : ℕ) (signs bases : List ℕ) → bases ≡ bases_of n signs → length bases ≡ n * n
long_bases n signs bases e = ap length e ∙ length-map-range_with_len (λ k. length (edges_before n signs k)) 0 (n * n)

pub base_read : (n : ℕ) (signs bases : List ℕ) (place : ℕ) → bases ≡ bases_of n signs → place < n * n → get_or bases place 0 ≡ length (edges_before n signs place)
base_read n signs bases place e few =
    ap (λ l. get_or l place 0) e ∙ get_or-map-range_with_len (λ k. length (edges_before n signs k)) 0 (n * n) place place 0 few (omega arith)

pub number_read : (n : ℕ) (signs bases : List ℕ) (x y dir place rank : ℕ) → bases ≡ bases_of n signs → place < n * n → place ≡ y * n + x → rank ≡ rank_of (get_or signs place 0) dir → get_or bases place 0 + rank ≡ number_by n signs (edge x y dir)
number_read n signs bases x y dir place rank e few at k =
    ap (λ b. b + rank) (base_read n signs bases place e few)
    ∙ ap (λ r. length (edges_before n signs place) + r) k
    ∙ ap (λ p. length (edges_before n signs p) + rank_of (get_or signs p 0) dir) at

pub next_read : (n : ℕ) (signs : List ℕ) (e : PlaneEdge) (here there : ℕ) (low third : Bool) (t : LeftTriangle) (other from to along_x along_y : ℕ) → here ≡ e.y * n + e.x → low ≡ has_sign (get_or signs here 0) 0 → t ≡ left_triangle e.dir low → there ≡ (e.y - t.back_y) * n + (e.x - t.back_x) → third ≡ has_sign (get_or signs there 0) t.c → other ≡ (if third then t.b else t.a) → from ≡ min t.c other → to ≡ max t.c other → along_x ≡ from % 2 → along_y ≡ from / 2 % 2 → next_by n signs e ≡ edge ((e.x - t.back_x) + along_x) ((e.y - t.back_y) + along_y) (to - from)
unfolding next_by
next_read n signs e here there low third t other from to along_x along_y here_is low_is t_is there_is third_is other_is from_is to_is x_is y_is =
    rw (x_is, y_is, from_is, to_is, other_is, third_is, there_is, t_is, low_is, here_is) refl

-- ---- vertices

abbrev one_of : Bool → ℕ → List ℕ
one_of b dir = if b then dir ∷ [] else []

mixed_parts : (a b c : Bool) → kept 1 2 3 a b c ≡ one_of a 1 ++ (one_of b 2 ++ one_of c 3)
mixed_parts true true true = refl
mixed_parts true true false = refl
mixed_parts true false true = refl
mixed_parts true false false = refl
mixed_parts false true true = refl
mixed_parts false true false = refl
mixed_parts false false true = refl
mixed_parts false false false = refl

-- the vertices on the edges from a point in some directions
abbrev pub made_from : (PlaneEdge → PlaneVertex) → PlanePoint → List ℕ → List PlaneVertex
made_from h p dirs = map h (map (edge_from p) dirs)

made_append : (h : PlaneEdge → PlaneVertex) (p : PlanePoint) (a b : List ℕ) → made_from h p (a ++ b) ≡ made_from h p a ++ made_from h p b
made_append h p a b = ap (map h) (map-append (edge_from p) a b) ∙ map-append h (map (edge_from p) a) (map (edge_from p) b)

-- the vertices of three directions are those of a cell
pub three_pushed : (h : PlaneEdge → PlaneVertex) (p : PlanePoint) (signs : ℕ) (old one two three : List PlaneVertex) → one ≡ old ++ made_from h p (if_mixed signs 1) → two ≡ one ++ made_from h p (if_mixed signs 2) → three ≡ two ++ made_from h p (if_mixed signs 3) → three ≡ old ++ made_from h p (mixed_directions signs)
three_pushed h p signs old one two three e f g =
    let a = if_mixed signs 1 in
    let b = if_mixed signs 2 in
    let c = if_mixed signs 3 in
    let whole : made_from h p (mixed_directions signs) ≡ made_from h p a ++ (made_from h p b ++ made_from h p c) =
    ap (made_from h p) (mixed_parts (flag signs 1) (flag signs 2) (flag signs 3)) ∙ made_append h p a (b ++ c) ∙ ap (λ l. made_from h p a ++ l) (made_append h p b c) in
    g ∙ ap (λ l. l ++ made_from h p c) (f ∙ ap (λ l. l ++ made_from h p b) e)
    ∙ append_assoc (old ++ made_from h p a) (made_from h p b) (made_from h p c)
    ∙ append_assoc old (made_from h p a) (made_from h p b ++ made_from h p c)
    ∙ ap (λ l. old ++ l) (sym whole)

-- the coordinates of a place
pub record IsPlace (n place : ℕ) : Type 0 where
  pub x : place % n < n
  pub y : place / n < n

pub is_place : (n place : ℕ) → place < n * n → IsPlace n place
is_place zero place few = absurd (omega (arith, few))
is_place (suc n) place few =
    let some : 0 < suc n = omega arith in
    record { x = mod_below place (suc n) some; y = (div-lt_iff_lt-mul {k = suc n} {x = place} {y = suc n} some).1 few }

-- a value read at a corner of a cell
pub value_read : (n : ℕ) (values : List ℤ) (place x y : ℕ) (v : ℤ) → length values ≡ (n + 1) * (n + 1) → place < n * n → x ≤ 1 → y ≤ 1 → v ≡ get_or values ((place / n + y) * (n + 1) + (place % n + x)) v → v ≡ get_or values ((place / n + y) * (n + 1) + (place % n + x)) (pos 0)
value_read n values place x y v long few fx fy e =
    let p = is_place n place few in
    let px = p.x in
    let py = p.y in
    let less = place_less (n + 1) (place % n + x) (place / n + y) (omega (arith, px, fx)) (omega (arith, py, fy)) in
    e ∙ get_or_default values ((place / n + y) * (n + 1) + (place % n + x)) v (pos 0) (omega (arith, less, long))

-- ---- one more cell

pub more_vertices : (n : ℕ) (signs : List ℕ) (f : PlaneEdge → PlaneVertex) (place : ℕ) (old new : List PlaneVertex) → old ≡ map f (edges_before n signs place) → new ≡ old ++ map f (edges_at n signs place) → new ≡ map f (edges_before n signs (place + 1))
more_vertices n signs f place old new e k =
    let one : place + 1 ≡ suc place = omega arith in
    k ∙ ap (λ l. l ++ map f (edges_at n signs place)) e ∙ sym (map-append f (edges_before n signs place) (edges_at n signs place)) ∙ ap (map f) (sym (before_more n signs place)) ∙ ap (λ m. map f (edges_before n signs m)) (sym one)

pub more_bases : (n : ℕ) (signs : List ℕ) (f : PlaneEdge → PlaneVertex) (place long : ℕ) (vertices : List PlaneVertex) (old new : List ℕ) → vertices ≡ map f (edges_before n signs place) → long ≡ length vertices → old ≡ map (λ k. length (edges_before n signs k)) (range_with_len 0 place) → new ≡ old ++ long ∷ [] → new ≡ map (λ k. length (edges_before n signs k)) (range_with_len 0 (place + 1))
more_bases n signs f place long vertices old new is l e k =
    let at = l ∙ ap length is ∙ length-map (edges_before n signs place) f in
    k ∙ ap (λ b. b ++ long ∷ []) e ∙ ap (λ m. map (λ k. length (edges_before n signs k)) (range_with_len 0 place) ++ m ∷ []) at
    ∙ sym (map-range_with_len_more (λ k. length (edges_before n signs k)) 0 place place (omega arith))

pub cell_parted : (n : ℕ) (signs : List ℕ) (P : PlaneEdge → Type 0) (all place : ℕ) → place < all → All P (edges_before n signs all) → All P (edges_at n signs place)
cell_parted n signs P all place few h =
    let rest = flat_map (edges_at n signs) (range_with_len (place + 1) (all - (place + 1))) in
    all_left P (edges_at n signs place) rest (all_right P (edges_before n signs place) (edges_at n signs place ++ rest) (subst (All P) (split_at n signs all place few) h))

pub square_small : (n : ℕ) → n ≤ 256 → n * n ≤ 65536
square_small n h =
    let a = mul-le-mul_left n h in
    omega (arith, a, h)

-- no more vertices stand before a cell than three for each cell
pub few_made : (n : ℕ) (signs : List ℕ) (f : PlaneEdge → PlaneVertex) (place : ℕ) (vertices : List PlaneVertex) → n ≤ 256 → place ≤ n * n → vertices ≡ map f (edges_before n signs place) → length vertices ≤ 196608
few_made n signs f place vertices small few is =
    let a = ap length is ∙ length-map (edges_before n signs place) f in
    let b = few_before n signs place in
    let c = square_small n small in
    omega (arith, a, b, c, few)

abbrev pub vertex_at : ℕ → ℕ → ℕ → ℕ → PlaneVertex
vertex_at x y dir t = record { x = x; y = y; dir = dir; t = t }

-- a vertex by the values at the ends of its edge
pub vertex_read : (n : ℕ) (values : List ℤ) (place dir along_x along_y t : ℕ) (low high : ℤ) → length values ≡ (n + 1) * (n + 1) → place < n * n → along_x ≡ dir % 2 → along_y ≡ dir / 2 % 2 → low ≡ get_or values (place / n * (n + 1) + place % n) low → high ≡ get_or values ((place / n + along_y) * (n + 1) + (place % n + along_x)) high → t ≡ way_up low high → vertex_at (place % n) (place / n) dir t ≡ vertex_by n values (edge_from (cell_at n place) dir)
vertex_read n values place dir along_x along_y t low high long few x_is y_is low_is high_is t_is =
    let e : place / n + 0 ≡ place / n = omega arith in
    let f : place % n + 0 ≡ place % n = omega arith in
    let same : (place / n + 0) * (n + 1) + (place % n + 0) ≡ place / n * (n + 1) + place % n = ap (λ y. y * (n + 1) + (place % n + 0)) e ∙ ap (λ x. place / n * (n + 1) + x) f in
    let first = value_read n values place 0 0 low long few (omega arith) (omega arith) (low_is ∙ ap (λ i. get_or values i low) (sym same)) in
    let a = first ∙ ap (λ i. get_or values i (pos 0)) same in
    let b = value_read n values place along_x along_y high long few (omega (arith, x_is)) (omega (arith, y_is)) high_is in
    let c = b ∙ ap (λ x. get_or values ((place / n + along_y) * (n + 1) + (place % n + x)) (pos 0)) x_is ∙ ap (λ y. get_or values ((place / n + y) * (n + 1) + (place % n + dir % 2)) (pos 0)) y_is in
    made t (t_is ∙ ap (λ v. way_up v high) a ∙ ap (way_up (get_or values (place / n * (n + 1) + place % n) (pos 0))) c)
  where
    made : (t : ℕ) → t ≡ (vertex_by n values (edge_from (cell_at n place) dir)).t → vertex_at (place % n) (place / n) dir t ≡ vertex_by n values (edge_from (cell_at n place) dir)
    made t e = ap (vertex_at (place % n) (place / n) dir) e

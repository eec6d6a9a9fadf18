-- What tables of a grid give.
use Rattle.std.proofs.Common.{◌≡◌, ℕ, ◌+◌, ◌*◌, ◌<◌, ◌≤◌, ℤ, pos, Bool, true, false, List, [], ◌∷◌, refl, arith, ◌∙◌, ap, subst, sym, length, get_or}
use Rattle.std.specs.Prelude.{All, map}
use Rattle.std.specs.List.{concat}
use Rattle.std.proofs.lemmas.Bool.{false≢true}
use Rattle.std.proofs.lemmas.List.Elements.{All-map}
use Rattle.fixed_ops.specs.Raw.{is_inside}
use Rattle.kuhn_cells.specs.Arrangement.{differ}
use Rattle.mesh_laws.specs.Places.{way_up}
use Rattle.plane_loops.specs.declared.plane_vertex.PlaneVertex.{PlaneVertex}
use Rattle.plane_loops.specs.Contours.{Contour, IsContour, contour_with, ends_from}
use Rattle.plane_loops.specs.Following.{edge_of, edges_before, loops_by, next_by, number_by, place_of, successors_by, vertex_by}
use Rattle.plane_loops.specs.Planes.{PlaneEdge, PlaneGrid, PlanePoint, further, is_inside_at, lower, upper, value_at, vertex_on, vertices}
use Rattle.plane_loops.specs.Steps.{HasNext, IsParted, bases_of}
use Rattle.plane_loops.specs.Tables.{AreMixed, AreTables, one_if, signs_at}
use Rattle.plane_loops.proofs.GridLaws.{IsVertex}
use Rattle.plane_loops.proofs.JoinLaws.{contour_is, held_at, one_to_one}
use Rattle.plane_loops.proofs.LoopLaws.{IsOneToOne}
use Rattle.plane_loops.proofs.NumberLaws.{few_before}
use Rattle.plane_loops.proofs.ReadLaws.{base_read, long_bases, square_small, vertex_at}
use Rattle.plane_loops.proofs.TableLaws.{HasSigns, edges_are, has_next, start_is}
use Rattle.plane_loops.proofs.TurnLaws.{each_dir}
use Rattle.std.proofs.lemmas.List.{get_or_default}
use Rattle.fixed_ops.proofs.Lists.{map_same}
use Rattle.kuhn_cells.proofs.CellLaws.{same_side}

abbrev OwnTables : PlaneGrid → List ℤ → List ℕ → Type 0
OwnTables g values signs = AreTables g.n g values signs

has_table : (g : PlaneGrid) (values : List ℤ) (signs : List ℕ) → OwnTables g values signs → HasSigns g signs
has_table g values signs t = record { border = t.border; sides = t.sides }

-- ---- the values at the ends of an edge

abbrev byte : Bool → Bool → Bool → Bool → ℕ
byte a b c d = one_if a + 2 * one_if b + 4 * one_if c + 8 * one_if d

bit_most : (a : Bool) → one_if a ≤ 1
bit_most true = omega arith
bit_most false = omega arith

bit_none : (a : Bool) → one_if a ≡ 0 → a ≡ false
bit_none true h = absurd (omega (arith, h))
bit_none false h = refl

bit_one : (a : Bool) → one_if a ≡ 1 → a ≡ true
bit_one true h = refl
bit_one false h = absurd (omega (arith, h))

-- the corners of a cell whose byte is 0 or 15 are all on one side
record AreOne (a b c d : Bool) : Type 0 where
  second : b ≡ a
  third : c ≡ a
  fourth : d ≡ a

all_out : (a b c d : Bool) → byte a b c d ≡ 0 → AreOne a b c d
all_out a b c d h =
    let p = bit_none a (omega (arith, h)) in
    record {
      second = bit_none b (omega (arith, h)) ∙ sym p;
      third = bit_none c (omega (arith, h)) ∙ sym p;
      fourth = bit_none d (omega (arith, h)) ∙ sym p;
    }

all_in : (a b c d : Bool) → byte a b c d ≡ 15 → AreOne a b c d
all_in a b c d h =
    let i = bit_most a in
    let j = bit_most b in
    let k = bit_most c in
    let l = bit_most d in
    let p = bit_one a (omega (arith, h, i, j, k, l)) in
    record {
      second = bit_one b (omega (arith, h, i, j, k, l)) ∙ sym p;
      third = bit_one c (omega (arith, h, i, j, k, l)) ∙ sym p;
      fourth = bit_one d (omega (arith, h, i, j, k, l)) ∙ sym p;
    }

same_sides : (a b c d : Bool) (dir : ℕ) (side : ℕ → Bool) → side 0 ≡ a → side 1 ≡ b → side 2 ≡ c → side 3 ≡ d → AreOne a b c d → 1 ≤ dir → dir ≤ 3 → differ (side 0) (side dir) ≡ false
same_sides a b c d dir side p q r s one some few =
    each_dir (λ k. differ (side 0) (side k) ≡ false) (same_side _ _ (q ∙ one.second ∙ sym p)) (same_side _ _ (r ∙ one.third ∙ sym p)) (same_side _ _ (s ∙ one.fourth ∙ sym p)) dir some few

-- the cell of an edge that holds a vertex is mixed
mixed_cell : (g : PlaneGrid) (e : PlaneEdge) → IsVertex g e → AreMixed (signs_at (is_inside_at g) (lower e))
mixed_cell g e v = (λ h. by (all_out _ _ _ _ h), λ h. by (all_in _ _ _ _ h))
  where
    side : ℕ → Bool
    side c = is_inside_at g (further (lower e) c)

    start : is_inside_at g (further (lower e) 0) ≡ is_inside_at g (lower e)
    start = ap (is_inside_at g) (start_is (lower e))

    by : AreOne (is_inside_at g (further (lower e) 0)) (is_inside_at g (further (lower e) 1)) (is_inside_at g (further (lower e) 2)) (is_inside_at g (further (lower e) 3)) → ⊥
    by one =
        let none = same_sides _ _ _ _ e.dir (λ c. is_inside_at g (further (lower e) c)) refl refl refl refl one v.some v.few in
        false≢true (sym none ∙ ap (λ b. differ b (is_inside_at g (upper e))) start ∙ v.mixed)

record IsRead (g : PlaneGrid) (values : List ℤ) (e : PlaneEdge) : Type 0 where
  low : get_or values (place_of (g.n + 1) (lower e)) (pos 0) ≡ value_at g (lower e)
  high : get_or values (place_of (g.n + 1) (upper e)) (pos 0) ≡ value_at g (upper e)

is_read : (g : PlaneGrid) (values : List ℤ) (signs : List ℕ) → OwnTables g values signs → (e : PlaneEdge) → IsVertex g e → IsRead g values e
is_read g values signs t e v =
    let few = v.few in
    let P : PlanePoint → Type 0 = λ p. get_or values (place_of (g.n + 1) p) (pos 0) ≡ value_at g p in
    record {
      low = subst P (start_is (lower e)) (t.exact (lower e) 0 v.x v.y (omega arith) (mixed_cell g e v));
      high = t.exact (lower e) e.dir v.x v.y (omega (arith, few)) (mixed_cell g e v);
    }

-- ---- the edges that hold a vertex, by the tables

all_vertices : (g : PlaneGrid) (signs : List ℕ) → HasSigns g signs → All (IsVertex g) (edges_before g.n signs (g.n * g.n))
all_vertices g signs h k d few =
    let same = edges_are g signs h in
    let long = ap length same in
    let held = held_at g signs h k (omega (arith, few, long)) in
    subst (IsVertex g) (sym (ap (λ l. get_or l k d) (sym same) ∙ held.here d)) held.vertex

vertex_is : (g : PlaneGrid) (values : List ℤ) (e : PlaneEdge) → IsRead g values e → vertex_by g.n values e ≡ vertex_on g e
vertex_is g values e r =
    ap (λ a. vertex_at e.x e.y e.dir (way_up a (get_or values (place_of (g.n + 1) (upper e)) (pos 0)))) r.low ∙ ap (λ b. vertex_at e.x e.y e.dir (way_up (value_at g (lower e)) b)) r.high

-- what the tables of a grid of so many cells along each axis give
pub record Gives (n : ℕ) (g : PlaneGrid) (values : List ℤ) (signs : List ℕ) : Type 0 where
  pub parted : All (IsParted n values) (edges_before n signs (n * n))
  pub made : map (vertex_by n values) (edges_before n signs (n * n)) ≡ vertices g
  pub next : All (λ v. HasNext n signs (edge_of v)) (map (vertex_by n values) (edges_before n signs (n * n)))
  pub one : IsOneToOne (successors_by n signs)
  pub contour : IsContour g (contour_with g (loops_by (successors_by n signs)))

own_gives : (g : PlaneGrid) (values : List ℤ) (signs : List ℕ) → OwnTables g values signs → Gives g.n g values signs
own_gives g values signs t =
    let h = has_table g values signs t in
    let all = edges_before g.n signs (g.n * g.n) in
    let are = all_vertices g signs h in
    record {
      parted = λ k d few.
          let e = get_or all k d in
          let v = are k d few in
          let r = is_read g values signs t e v in
          ap (λ a. differ (is_inside a) (is_inside (get_or values (place_of (g.n + 1) (upper e)) (pos 0)))) r.low ∙ ap (λ b. differ (is_inside (value_at g (lower e))) (is_inside b)) r.high ∙ v.mixed;
      made = map_same (vertex_by g.n values) (vertex_on g) all (λ k d few. vertex_is g values (get_or all k d) (is_read g values signs t (get_or all k d) (are k d few))) ∙ ap (map (vertex_on g)) (sym (edges_are g signs h));
      next = All-map (λ v. HasNext g.n signs (edge_of v)) (vertex_by g.n values) all (λ k d few. has_next g signs h (get_or all k d) (are k d few));
      one = one_to_one g signs h;
      contour = contour_is g signs h;
    }

pub gives : (n : ℕ) (g : PlaneGrid) (values : List ℤ) (signs : List ℕ) → AreTables n g values signs → Gives n g values signs
gives n g values signs t =
    let P : ℕ → Type 0 = λ m. AreTables m g values signs → Gives m g values signs in
    subst P t.size (own_gives g values signs) t

-- ---- small numbers

pub small_bases : (n : ℕ) (signs bases : List ℕ) → n ≤ 256 → bases ≡ bases_of n signs → All (λ base. base ≤ 196608) bases
small_bases n signs bases few is k d within =
    let long = long_bases n signs bases is in
    let less : k < n * n = omega (arith, within, long) in
    let a = get_or_default bases k d 0 within ∙ base_read n signs bases k is less in
    let b = few_before n signs k in
    let c = square_small n few in
    omega (arith, a, b, c, less)

-- the successors of vertices, by the vertices
pub next_of_vertices : (n : ℕ) (values : List ℤ) (signs : List ℕ) (vs : List PlaneVertex) (next : List ℕ) → vs ≡ map (vertex_by n values) (edges_before n signs (n * n)) → next ≡ map (λ v. number_by n signs (next_by n signs (edge_of v))) vs → next ≡ successors_by n signs
next_of_vertices n values signs vs next is e =
    e ∙ ap (map (λ v. number_by n signs (next_by n signs (edge_of v)))) is ∙ map_twice (vertex_by n values) (λ v. number_by n signs (next_by n signs (edge_of v))) (edges_before n signs (n * n))
  where
    map_twice : {A B C : Type 0} (f : A → B) (h : B → C) (xs : List A) → map h (map f xs) ≡ map (λ x. h (f x)) xs
    map_twice f h [] = refl
    map_twice f h (x ∷ xs) = ap (λ ys. h (f x) ∷ ys) (map_twice f h xs)

pub next_few : (next : List ℕ) → IsOneToOne next → All (λ v. v < length next) next
next_few next one k d few =
    let a = one.within k few in
    let b = get_or_default next k d 0 few in
    omega (arith, a, b)

-- ---- the whole contour

abbrev contour_at : List PlaneVertex → List ℕ → List ℕ → Contour
contour_at vs order ends = record { vertices = vs; order = order; ends = ends }

pub linked : (n : ℕ) (g : PlaneGrid) (values : List ℤ) (signs : List ℕ) → AreTables n g values signs → (vs : List PlaneVertex) (next order ends : List ℕ) → vs ≡ map (vertex_by n values) (edges_before n signs (n * n)) → next ≡ map (λ v. number_by n signs (next_by n signs (edge_of v))) vs → order ≡ concat (loops_by next) → ends ≡ ends_from 0 (loops_by next) → IsContour g (record { vertices = vs; order = order; ends = ends })
linked n g values signs t vs next order ends vs_is next_is order_is ends_is =
    let k = gives n g values signs t in
    let e = next_of_vertices n values signs vs next vs_is next_is in
    let loops = loops_by (successors_by n signs) in
    let same : contour_at vs order ends ≡ contour_with g loops =
    ap (λ v. contour_at v order ends) (vs_is ∙ k.made)
    ∙ ap (λ o. contour_at (vertices g) o ends) (order_is ∙ ap (λ x. concat (loops_by x)) e)
    ∙ ap (λ x. contour_at (vertices g) (concat loops) x) (ends_is ∙ ap (λ x. ends_from 0 (loops_by x)) e) in
    subst (IsContour g) (sym same) k.contour

pub next_within : (n : ℕ) (g : PlaneGrid) (values : List ℤ) (signs : List ℕ) → AreTables n g values signs → (vs : List PlaneVertex) (next : List ℕ) → vs ≡ map (vertex_by n values) (edges_before n signs (n * n)) → next ≡ map (λ v. number_by n signs (next_by n signs (edge_of v))) vs → All (λ v. v < length next) next
next_within n g values signs t vs next vs_is next_is =
    let e = next_of_vertices n values signs vs next vs_is next_is in
    let P : List ℕ → Type 0 = λ l. All (λ v. v < length l) l in
    subst P (sym e) (next_few (successors_by n signs) (gives n g values signs t).one)

pub vertices_have_next : (n : ℕ) (g : PlaneGrid) (values : List ℤ) (signs : List ℕ) → AreTables n g values signs → (vs : List PlaneVertex) → vs ≡ map (vertex_by n values) (edges_before n signs (n * n)) → All (λ v. HasNext n signs (edge_of v)) vs
vertices_have_next n g values signs t vs is =
    let P : List PlaneVertex → Type 0 = λ l. All (λ v. HasNext n signs (edge_of v)) l in
    subst P (sym is) (gives n g values signs t).next

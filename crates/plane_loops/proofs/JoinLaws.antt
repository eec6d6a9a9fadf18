-- Which vertices are joined.
use Rattle.std.proofs.Common.{◌≡◌, ℕ, ◌*◌, ◌<◌, Bool, true, false, List, [], ◌∷◌, refl, arith, ◌∙◌, ap, subst, sym, length, get_or}
use Rattle.std.specs.Prelude.{replicate, All, Contains}
use Rattle.std.specs.List.{concat}
use Rattle.std.proofs.lemmas.Bool.{false≢true}
use Rattle.std.proofs.lemmas.List.{get_or-map, get_or-replicate, length-map, length-replicate}
use Rattle.std.proofs.lemmas.List.Elements.{All-cons, All-head, All-nil, All-tail}
use Rattle.mesh_laws.specs.Manifold.{arcs_on, cycle_arcs}
use Rattle.plane_loops.specs.Contours.{AreJoined, AreLoops, IsContour, StartsLowest, contour_with}
use Rattle.plane_loops.specs.Following.{cell_before, edges_before, loops_by, next_by, number_by, successors_by}
use Rattle.plane_loops.specs.Laws.{ContoursAreWorkedOut, OneContour}
use Rattle.plane_loops.specs.Planes.{IsBordered, PlaneEdge, PlaneGrid, is_inside_at, mixed_edges}
use Rattle.plane_loops.specs.Segments.{cell_segments, segments}
use Rattle.plane_loops.proofs.CompleteLaws.{complete, only}
use Rattle.plane_loops.proofs.GridLaws.{IsVertex, leaving}
use Rattle.plane_loops.proofs.Lists.{at, bit}
use Rattle.plane_loops.proofs.LoopLaws.{Follows, IsCycle, IsFront, IsOneToOne, next_of}
use Rattle.plane_loops.proofs.NextLaws.{edge, followed, leaves_at, left_of, next_in}
use Rattle.plane_loops.proofs.NumberLaws.{has_edge, numbered}
use Rattle.plane_loops.proofs.Squares.{from_square, in_square}
use Rattle.plane_loops.proofs.SwapLaws.{arrived, outside}
use Rattle.plane_loops.proofs.TableLaws.{HasSigns, edges_are, flag_same, has_signs, in_grid, next_is, next_vertex}
use Rattle.plane_loops.specs.WorkedOut.{contour_of, signs_of}
use Rattle.plane_loops.proofs.TurnLaws.{segment, turn_of}
use Rattle.fixed_ops.proofs.Lists.{all_left, all_right}

-- ---- the segments of a grid

pub record IsPlaced (g : PlaneGrid) (e f : PlaneEdge) : Type 0 where
  pub next : next_in (is_inside_at g) e ≡ f
  pub back : next_in (outside (is_inside_at g)) f ≡ e

pub placed : (g : PlaneGrid) (e f : PlaneEdge) → Contains (segments g) (segment e f) → IsPlaced g e f
unfolding segments
placed g e f h =
    let inside = is_inside_at g in
    let at = from_square g.n (cell_segments inside) (segment e f) h in
    let k = followed inside at.place (segment e f) (turn_of inside at.place (segment e f) at.has) in
    record { next = k.next; back = arrived inside at.place e f at.has }

pub leaves_grid : (g : PlaneGrid) → IsBordered g → (e : PlaneEdge) → IsVertex g e → Contains (segments g) (segment e (next_in (is_inside_at g) e))
unfolding segments
leaves_grid g border e v =
    let inside = is_inside_at g in
    let cell = cell_before e (left_of inside e) in
    let x = v.x in
    let y = v.y in
    in_square g.n (cell_segments inside) cell (segment e (next_in inside e)) (omega (arith, x)) (omega (arith, y)) (leaves_at inside e (leaving g border e v))

-- ---- the successors of a grid's vertices

-- a vertex by its number
pub record IsHeld (g : PlaneGrid) (signs : List ℕ) (u : ℕ) : Type 0 where
  pub held : PlaneEdge
  pub here : (d : PlaneEdge) → get_or (mixed_edges g) u d ≡ held
  pub number : number_by g.n signs held ≡ u
  pub vertex : IsVertex g held

pub held_at : (g : PlaneGrid) (signs : List ℕ) → HasSigns g signs → (u : ℕ) → u < length (mixed_edges g) → IsHeld g signs u
held_at g signs h u few =
    let same = edges_are g signs h in
    let long = ap length same in
    let k = has_edge g.n signs u (omega (arith, few, long)) in
    record {
      held = k.held;
      here = λ d. ap (λ l. get_or l u d) same ∙ k.here d;
      number = k.number;
      vertex = record {
        x = k.in_grid.x;
        y = k.in_grid.y;
        some = k.in_grid.some;
        few = k.in_grid.few;
        mixed = sym (flag_same g signs h k.held k.in_grid) ∙ k.mixed;
      };
    }

pub record HasNumber (g : PlaneGrid) (signs : List ℕ) (e : PlaneEdge) : Type 0 where
  pub within : number_by g.n signs e < length (mixed_edges g)
  pub here : (d : PlaneEdge) → get_or (mixed_edges g) (number_by g.n signs e) d ≡ e

pub has_number : (g : PlaneGrid) (signs : List ℕ) → HasSigns g signs → (e : PlaneEdge) → IsVertex g e → HasNumber g signs e
has_number g signs h e v =
    let same = edges_are g signs h in
    let long = ap length same in
    let k = numbered g.n signs e (in_grid g e v) (flag_same g signs h e (in_grid g e v) ∙ v.mixed) in
    let few = k.within in
    record { within = omega (arith, few, long); here = λ d. ap (λ l. get_or l (number_by g.n signs e) d) same ∙ k.here d }

pub long_next : (g : PlaneGrid) (signs : List ℕ) → HasSigns g signs → length (successors_by g.n signs) ≡ length (mixed_edges g)
long_next g signs h =
    length-map (edges_before g.n signs (g.n * g.n)) (λ e. number_by g.n signs (next_by g.n signs e)) ∙ sym (ap length (edges_are g signs h))

-- the successor of a vertex is the number of the edge on which its segment ends
pub next_number : (g : PlaneGrid) (signs : List ℕ) (h : HasSigns g signs) (u : ℕ) (few : u < length (mixed_edges g)) → next_of (successors_by g.n signs) u ≡ number_by g.n signs (next_in (is_inside_at g) (held_at g signs h u few).held)
next_number g signs h u few =
    let k = held_at g signs h u few in
    let same = edges_are g signs h in
    let long = ap length same in
    get_or-map (λ e. number_by g.n signs (next_by g.n signs e)) (edges_before g.n signs (g.n * g.n)) u (edge 0 0 0) 0 (omega (arith, few, long))
    ∙ ap (λ l. number_by g.n signs (next_by g.n signs (get_or l u (edge 0 0 0)))) (sym same)
    ∙ ap (λ e. number_by g.n signs (next_by g.n signs e)) (k.here (edge 0 0 0))
    ∙ ap (number_by g.n signs) (next_is g signs h k.held k.vertex)

pub joined_next : (g : PlaneGrid) (signs : List ℕ) → HasSigns g signs → (u : ℕ) → u < length (mixed_edges g) → AreJoined g u (next_of (successors_by g.n signs) u)
joined_next g signs h u few =
    let k = held_at g signs h u few in
    let e = k.held in
    let f = next_in (is_inside_at g) e in
    let n = has_number g signs h f (next_vertex g h.border e k.vertex) in
    let same = next_number g signs h u few in
    let P : ℕ → Type 0 = λ v. AreJoined g u v in
    subst P (sym same) (record {
      from = few;
      to = n.within;
      along = λ d.
          let Q : PlaneEdge → Type 0 = λ x. Contains (segments g) (segment x (get_or (mixed_edges g) (number_by g.n signs f) d)) in
          let R : PlaneEdge → Type 0 = λ x. Contains (segments g) (segment e x) in
          subst Q (sym (k.here d)) (subst R (sym (n.here d)) (leaves_grid g h.border e k.vertex));
    })

-- a segment between two vertices
along_held : (g : PlaneGrid) (signs : List ℕ) (h : HasSigns g signs) (u v : ℕ) (j : AreJoined g u v) → IsPlaced g (held_at g signs h u j.from).held (held_at g signs h v j.to).held
along_held g signs h u v j =
    let d = edge 0 0 0 in
    let k = held_at g signs h u j.from in
    let l = held_at g signs h v j.to in
    let Q : PlaneEdge → Type 0 = λ x. Contains (segments g) (segment x (get_or (mixed_edges g) v d)) in
    let R : PlaneEdge → Type 0 = λ x. Contains (segments g) (segment k.held x) in
    placed g k.held l.held (subst R (l.here d) (subst Q (k.here d) (j.along d)))

pub only_next : (g : PlaneGrid) (signs : List ℕ) → HasSigns g signs → (u v : ℕ) → AreJoined g u v → v ≡ next_of (successors_by g.n signs) u
only_next g signs h u v j =
    let l = held_at g signs h v j.to in
    sym (next_number g signs h u j.from ∙ ap (number_by g.n signs) (along_held g signs h u v j).next ∙ l.number)

pub only_before : (g : PlaneGrid) (signs : List ℕ) → HasSigns g signs → (u v w : ℕ) → AreJoined g u w → AreJoined g v w → u ≡ v
only_before g signs h u v w i j =
    let d = edge 0 0 0 in
    let inside = outside (is_inside_at g) in
    let a = held_at g signs h u i.from in
    let b = held_at g signs h v j.from in
    let first = (along_held g signs h u w i).back in
    let second = (along_held g signs h v w j).back in
    let same = ap (next_in inside) (sym ((held_at g signs h w i.to).here d) ∙ (held_at g signs h w j.to).here d) in
    sym a.number ∙ ap (number_by g.n signs) (sym first ∙ same ∙ second) ∙ b.number

pub one_to_one : (g : PlaneGrid) (signs : List ℕ) → HasSigns g signs → IsOneToOne (successors_by g.n signs)
one_to_one g signs h =
    let long = long_next g signs h in
    record {
      within = λ v few. let j = joined_next g signs h v (omega (arith, few, long)) in let to = j.to in omega (arith, to, long);
      apart = λ u v fu fv same.
          let P : ℕ → Type 0 = λ w. AreJoined g v w in
          only_before g signs h u v (next_of (successors_by g.n signs) u) (joined_next g signs h u (omega (arith, fu, long))) (subst P (sym same) (joined_next g signs h v (omega (arith, fv, long))));
    }

-- ---- loops along segments, and loops along successors

follows_from : (g : PlaneGrid) (next : List ℕ) → ((u v : ℕ) → AreJoined g u v → v ≡ next_of next u) → (first v : ℕ) (vs : List ℕ) → All (λ arc. AreJoined g arc.0 arc.1) (arcs_on first v vs) → Follows next first v vs
follows_from g next only first v [] h = only v first (All-head (λ arc. AreJoined g arc.0 arc.1) (v, first) [] h)
follows_from g next only first v (w ∷ ws) h =
    (only v w (All-head (λ arc. AreJoined g arc.0 arc.1) (v, w) (arcs_on first w ws) h), follows_from g next only first w ws (All-tail (λ arc. AreJoined g arc.0 arc.1) (v, w) (arcs_on first w ws) h))

arcs_from : (g : PlaneGrid) (next : List ℕ) → ((u : ℕ) → u < length next → AreJoined g u (next_of next u)) → (first v : ℕ) (vs : List ℕ) → All (λ w. w < length next) (v ∷ vs) → Follows next first v vs → All (λ arc. AreJoined g arc.0 arc.1) (arcs_on first v vs)
arcs_from g next joins first v [] few follows =
    let P : ℕ → Type 0 = λ w. AreJoined g v w in
    All-cons (λ arc. AreJoined g arc.0 arc.1) (v, first) [] (subst P (sym follows) (joins v (All-head (λ w. w < length next) v [] few))) (All-nil (λ arc. AreJoined g arc.0 arc.1))
arcs_from g next joins first v (w ∷ ws) few follows =
    let P : ℕ → Type 0 = λ w. AreJoined g v w in
    All-cons (λ arc. AreJoined g arc.0 arc.1) (v, w) (arcs_on first w ws) (subst P (sym follows.0) (joins v (All-head (λ w. w < length next) v (w ∷ ws) few))) (arcs_from g next joins first w ws (All-tail (λ w. w < length next) v (w ∷ ws) few) follows.1)

cycle_of : (g : PlaneGrid) (next : List ℕ) → ((u v : ℕ) → AreJoined g u v → v ≡ next_of next u) → (loop : List ℕ) → All (λ arc. AreJoined g arc.0 arc.1) (cycle_arcs loop) → StartsLowest loop → IsCycle next loop
cycle_of g next only [] joined low = low
cycle_of g next only (v ∷ vs) joined low = (follows_from g next only v v vs joined, low)

joined_of : (g : PlaneGrid) (next : List ℕ) → ((u : ℕ) → u < length next → AreJoined g u (next_of next u)) → (loop : List ℕ) → All (λ w. w < length next) loop → IsCycle next loop → All (λ arc. AreJoined g arc.0 arc.1) (cycle_arcs loop)
joined_of g next joins [] few cycle = absurd cycle
joined_of g next joins (v ∷ vs) few cycle = arcs_from g next joins v v vs few cycle.0

lowest_of : (next : List ℕ) (loop : List ℕ) → IsCycle next loop → StartsLowest loop
lowest_of next [] cycle = cycle
lowest_of next (v ∷ vs) cycle = cycle.1

each_loop : (P : ℕ → Type 0) (loops : List (List ℕ)) → All P (concat loops) → All (All P) loops
each_loop P [] h = All-nil (All P)
each_loop P (l ∷ loops) h = All-cons (All P) l loops (all_left P l (concat loops) h) (each_loop P loops (all_right P l (concat loops) h))

abbrev no_marks : List ℕ → List Bool
no_marks next = replicate (length next) false

no_mark : (next : List ℕ) (w : ℕ) → w < length next → at (no_marks next) w ≡ false
no_mark next w few = get_or-replicate (length next) w false true few

front : (next : List ℕ) → IsOneToOne next → IsFront next (no_marks next) 0
front next one =
    record {
      size = length-replicate (length next) false;
      closed = λ u few m. absurd (false≢true (sym (no_mark next (next_of next u) (one.within u few)) ∙ m));
      below = λ w few. absurd (omega (arith, few));
    }

-- the loops of a grid
pub loops_are : (g : PlaneGrid) (signs : List ℕ) → HasSigns g signs → AreLoops (length (mixed_edges g)) (AreJoined g) (loops_by (successors_by g.n signs))
loops_are g signs h =
    let next = successors_by g.n signs in
    let long = long_next g signs h in
    let one = one_to_one g signs h in
    let c = complete (length next) next (no_marks next) 0 one (omega arith) (front next one) in
    let joins : (u : ℕ) → u < length next → AreJoined g u (next_of next u) = λ u few. joined_next g signs h u (omega (arith, few, long)) in
    let parts = each_loop (λ w. w < length next) (loops_by next) c.within in
    record {
      joined = λ i d few. joined_of g next joins _ (parts i d few) (c.cycles i d few);
      once = λ v few.
          let small : v < length next = omega (arith, few, long) in
          let e = c.counted v small in
          let f = ap bit (no_mark next v small) in
          omega (arith, e, f);
      within = λ i d few. let e = c.within i d few in omega (arith, e, long);
      lowest = λ i d few. lowest_of next _ (c.cycles i d few);
      rise = c.rise;
    }

pub loops_only : (g : PlaneGrid) (signs : List ℕ) → HasSigns g signs → (loops : List (List ℕ)) → AreLoops (length (mixed_edges g)) (AreJoined g) loops → loops ≡ loops_by (successors_by g.n signs)
loops_only g signs h loops l =
    let next = successors_by g.n signs in
    let long = long_next g signs h in
    let one = one_to_one g signs h in
    only (length next) next (no_marks next) 0 loops one (omega arith) (front next one) (record {
      cycles = λ i d few. cycle_of g next (only_next g signs h) _ (l.joined i d few) (l.lowest i d few);
      counted = λ w few.
          let e = l.once w (omega (arith, few, long)) in
          let f = ap bit (no_mark next w few) in
          omega (arith, e, f);
      within = λ i d few. let e = l.within i d few in omega (arith, e, long);
      starts = λ i d few. omega arith;
      rise = l.rise;
    })

-- ---- the contour

pub contour_is : (g : PlaneGrid) (signs : List ℕ) → HasSigns g signs → IsContour g (contour_with g (loops_by (successors_by g.n signs)))
contour_is g signs h = record { loops = loops_by (successors_by g.n signs); follow = loops_are g signs h; «is» = refl }

pub one_contour : OneContour
one_contour g border =
    let signs = signs_of g in
    let h = has_signs g border in
    record {
      contour = contour_with g (loops_by (successors_by g.n signs));
      «is» = contour_is g signs h;
      only = λ other k. k.«is» ∙ ap (contour_with g) (loops_only g signs h k.loops k.follow);
    }

-- it is the one that is worked out
pub worked_out : ContoursAreWorkedOut
unfolding contour_of
worked_out g border = contour_is g (signs_of g) (has_signs g border)

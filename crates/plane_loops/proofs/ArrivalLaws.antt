-- The segment that arrives at a vertex.
use Rattle.std.proofs.Common.{◌≡◌, ℕ, ◌+◌, ◌≤◌, Bool, true, false, List, refl, arith, ◌∙◌, ap, subst, sym}
use Rattle.std.specs.Prelude.{not, Contains}
use Rattle.kuhn_cells.specs.Arrangement.{differ}
use Rattle.kuhn_cells.specs.Corners.{along_x}
use Rattle.plane_loops.specs.Following.{cell_before, left_triangle, number_by}
use Rattle.plane_loops.specs.Laws.{OneSegmentEachWay, SegmentsJoinVertices}
use Rattle.plane_loops.specs.Planes.{IsBordered, PlaneEdge, PlaneGrid, PlanePoint, is_inside_at, lower, mixed_edges, upper}
use Rattle.plane_loops.specs.Segments.{Segment, cell_segments, edge_between, segments}
use Rattle.plane_loops.proofs.GridLaws.{IsVertex, in_cell, inner, other_inside}
use Rattle.plane_loops.proofs.JoinLaws.{has_number, held_at, leaves_grid, placed}
use Rattle.plane_loops.proofs.NextLaws.{IsLeaving, are_pairs, between, leaves_at, left_of, next_in}
use Rattle.plane_loops.proofs.Squares.{from_square, in_square}
use Rattle.plane_loops.proofs.SwapLaws.{cell_swap, outside, swap}
use Rattle.plane_loops.proofs.TableLaws.{has_signs, next_vertex}
use Rattle.plane_loops.specs.WorkedOut.{signs_of}
use Rattle.plane_loops.proofs.TurnLaws.{each_dir, segment, turn_of}
use Rattle.fixed_ops.proofs.Lists.{from_map}

-- ---- the sides exchanged

swapped_back : (inside : PlanePoint → Bool) (cell : PlanePoint) (e f : PlaneEdge) → Contains (cell_segments (outside inside) cell) (segment e f) → Contains (cell_segments inside cell) (segment f e)
swapped_back inside cell e f h =
    let P : List Segment → Type 0 = λ l. Contains l (segment e f) in
    let r = from_map swap (cell_segments inside cell) (segment e f) (subst P (cell_swap inside cell) h) in
    let Q : Segment → Type 0 = λ s. Contains (cell_segments inside cell) s in
    subst Q (ap swap r.2) r.1

differ_not : (a b : Bool) → differ a b ≡ true → differ (not a) (not b) ≡ true
differ_not true true h = h
differ_not true false h = h
differ_not false true h = h
differ_not false false h = h

record FitsBack (dir : ℕ) (low : Bool) (e : PlaneEdge) : Type 0 where
  x : (left_triangle dir low).back_x ≤ e.x
  y : (left_triangle dir low).back_y ≤ e.y

-- the triangle to the right of an edge lies in the grid too
leaving_out : (g : PlaneGrid) → IsBordered g → (e : PlaneEdge) → IsVertex g e → IsLeaving (outside (is_inside_at g)) e
leaving_out g border e v =
    let b = back (is_inside_at g (lower e)) refl in
    record { some = v.some; few = v.few; mixed = differ_not _ _ v.mixed; back_x = b.x; back_y = b.y }
  where
    below_x : e.x ≤ g.n
    below_x = let h = v.x in omega (arith, h)

    below_y : e.y ≤ g.n
    below_y = let h = v.y in omega (arith, h)

    upper_x : (upper e).x ≤ g.n
    upper_x = let h = v.x in omega (arith, h)

    upper_y : (upper e).y ≤ g.n
    upper_y = let h = v.y in omega (arith, h)

    back : (b : Bool) → is_inside_at g (lower e) ≡ b → FitsBack e.dir (not (is_inside_at g (lower e))) e
    back true h =
        let i = inner g border (lower e) below_x below_y h in
        let iy = i.y.low in
        subst (λ (s : Bool). FitsBack e.dir (not s) e) (sym h) (each_dir (λ d. FitsBack d false e)
        (record { x = omega arith; y = omega (arith, iy) })
        (record { x = omega arith; y = omega arith })
        (record { x = omega arith; y = omega arith }) e.dir v.some v.few)
    back false h =
        let high = other_inside (is_inside_at g (lower e)) (is_inside_at g (upper e)) v.mixed h in
        let i = inner g border (upper e) upper_x upper_y high in
        subst (λ (s : Bool). FitsBack e.dir (not s) e) (sym h) (each_dir (λ d. 1 ≤ e.x + along_x d → FitsBack d true e)
        (λ k. record { x = omega arith; y = omega arith })
        (λ k. record { x = omega (arith, k); y = omega arith })
        (λ k. record { x = omega arith; y = omega arith }) e.dir v.some v.few i.x.low)

arrives_grid : (g : PlaneGrid) → IsBordered g → (e : PlaneEdge) → IsVertex g e → Contains (segments g) (segment (next_in (outside (is_inside_at g)) e) e)
unfolding segments
arrives_grid g border e v =
    let inside = is_inside_at g in
    let out = outside inside in
    let cell = cell_before e (left_of out e) in
    let x = v.x in
    let y = v.y in
    in_square g.n (cell_segments inside) cell (segment (next_in out e) e) (omega (arith, x)) (omega (arith, y)) (swapped_back inside cell e (next_in out e) (leaves_at out e (leaving_out g border e v)))

-- ---- a listed vertex

vertex_listed : (g : PlaneGrid) → IsBordered g → (e : PlaneEdge) → Contains (mixed_edges g) e → IsVertex g e
vertex_listed g border e h =
    let k = held_at g (signs_of g) (has_signs g border) h.0 h.1 in
    subst (IsVertex g) (sym (k.here e) ∙ h.2) k.vertex

listed_vertex : (g : PlaneGrid) → IsBordered g → (e : PlaneEdge) → IsVertex g e → Contains (mixed_edges g) e
listed_vertex g border e v =
    let k = has_number g (signs_of g) (has_signs g border) e v in
    (number_by g.n (signs_of g) e, k.within, k.here e)

pub one_segment_each_way : OneSegmentEachWay
one_segment_each_way g border e h =
    let v = vertex_listed g border e h in
    let inside = is_inside_at g in
    record {
      next = next_in inside e;
      leaves = leaves_grid g border e v;
      leaves_alone = λ f k. sym (placed g e f k).next;
      previous = next_in (outside inside) e;
      arrives = arrives_grid g border e v;
      arrives_alone = λ f k. sym (placed g f e k).back;
    }

-- ---- the ends of a segment

from_vertex : (g : PlaneGrid) → IsBordered g → (s : Segment) → Contains (segments g) s → IsVertex g s.from
unfolding segments
from_vertex g border s h =
    let inside = is_inside_at g in
    let at = from_square g.n (cell_segments inside) s h in
    let k = turn_of inside at.place s at.has in
    let t = left_triangle k.dir k.low in
    let pair = (are_pairs k.dir k.low k.some k.few).first_second in
    let turn = k.turn in
    let is = between inside at.place t.a t.b pair (turn.inner ∙ sym (ap not turn.outer)) in
    subst (IsVertex g) (ap (λ (r : Segment). r.from) turn.is_segment) (in_cell g border at.place (edge_between at.place t.a t.b) at.x at.y is)

pub segments_join_vertices : SegmentsJoinVertices
segments_join_vertices g border s h =
    let v = from_vertex g border s h in
    let next = (placed g s.from s.to h).next in
    record {
      from = listed_vertex g border s.from v;
      to = listed_vertex g border s.to (subst (IsVertex g) next (next_vertex g border s.from v));
    }

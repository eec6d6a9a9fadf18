-- The contour of a grid of two cells along each axis of which the middle point alone is inside, worked out by hand.
use Rattle.std.proofs.Common.{◌≡◌, ◌≢◌, ℕ, zero, suc, ◌<◌, ◌≤◌, ℤ, pos, negsuc, true, false, List, [], ◌∷◌, refl, arith, get_or}
use Rattle.std.proofs.lemmas.Bool.{and_parts, false≢true, leb-true}
use Rattle.plane_loops.specs.declared.plane_vertex.PlaneVertex.{PlaneVertex}
use Rattle.plane_loops.specs.Closed.{IsClosedContour}
use Rattle.plane_loops.specs.Contours.{contour_with, ends_from, loops_of, pieces_from}
use Rattle.plane_loops.specs.Following.{edges_before, loops_by, loops_from, mark_all, next_by, place_of, successors_by, walk}
use Rattle.plane_loops.specs.Laws.{SegmentsAreDistinct}
use Rattle.plane_loops.specs.Planes.{IsBordered, PlaneGrid, is_border, is_inside_at, mixed_edges, point, vertices}
use Rattle.plane_loops.specs.Segments.{segments}
use Rattle.plane_loops.specs.Tables.{AreTables, signs_at}
use Rattle.plane_loops.specs.WorkedOut.{contour_of}
use Rattle.plane_loops.proofs.NextLaws.{edge}
use Rattle.plane_loops.proofs.TurnLaws.{segment}

abbrev nine : ℤ → ℤ → List ℤ
nine out in' = out ∷ out ∷ out ∷ out ∷ in' ∷ out ∷ out ∷ out ∷ out ∷ []

abbrev pub middle_inside : PlaneGrid
middle_inside = record { n = 2; values = nine (pos 0) (negsuc 0) }

abbrev pub middle_signs : List ℕ
middle_signs = 8 ∷ 4 ∷ 2 ∷ 1 ∷ []

abbrev vertex : ℕ → ℕ → ℕ → ℕ → PlaneVertex
vertex x y dir t = record { x = x; y = y; dir = dir; t = t }

-- three edges come up to the middle point, and three go on from it
vertices_of_middle : vertices middle_inside ≡ vertex 0 0 3 1 ∷ vertex 1 0 2 1 ∷ vertex 0 1 1 1 ∷ vertex 1 1 1 65535 ∷ vertex 1 1 2 65535 ∷ vertex 1 1 3 65535 ∷ []
unfolding mixed_edges
vertices_of_middle = refl

-- a segment in each of the six triangles at the middle point, with that point on its left
segments_of_middle :
    segments middle_inside ≡ segment (edge 0 0 3) (edge 1 0 2) ∷ segment (edge 0 1 1) (edge 0 0 3) ∷ segment (edge 1 0 2) (edge 1 1 1) ∷ segment (edge 1 1 2) (edge 0 1 1) ∷ segment (edge 1 1 1) (edge 1 1 3) ∷ segment (edge 1 1 3) (edge 1 1 2) ∷ []
unfolding segments
segments_of_middle = refl

-- a corner that is inside has a segment in each triangle of its cell, which differ, though it lies on the border
abbrev corner_inside : PlaneGrid
corner_inside = record { n = 1; values = negsuc 0 ∷ pos 0 ∷ pos 0 ∷ pos 0 ∷ [] }

two_at_a_corner : SegmentsAreDistinct → segment (edge 0 0 1) (edge 0 0 3) ≢ segment (edge 0 0 3) (edge 0 0 2)
unfolding segments
two_at_a_corner distinct = distinct corner_inside 0 1 (segment (edge 0 0 1) (edge 0 0 1)) (omega arith) (omega arith)

-- one loop of six
loops_of_middle : loops_by (successors_by 2 middle_signs) ≡ (0 ∷ 1 ∷ 3 ∷ 5 ∷ 4 ∷ 2 ∷ []) ∷ []
unfolding edges_before next_by walk mark_all loops_from
loops_of_middle = refl

-- so the contour is worked out
contour_of_middle : contour_of middle_inside ≡ contour_with middle_inside ((0 ∷ 1 ∷ 3 ∷ 5 ∷ 4 ∷ 2 ∷ []) ∷ [])
unfolding contour_of edges_before next_by walk mark_all loops_from
contour_of_middle = refl

-- whose loops are the pieces of its order
loops_of_contour : loops_of (contour_with middle_inside ((0 ∷ 1 ∷ 3 ∷ 5 ∷ 4 ∷ 2 ∷ []) ∷ [])) ≡ (0 ∷ 1 ∷ 3 ∷ 5 ∷ 4 ∷ 2 ∷ []) ∷ []
loops_of_contour = refl

pieces : pieces_from {A = ℕ} 1 (5 ∷ 6 ∷ 7 ∷ 8 ∷ []) (2 ∷ 4 ∷ []) ≡ (6 ∷ []) ∷ (7 ∷ 8 ∷ []) ∷ []
pieces = refl

-- a contour is not closed where one of its loops goes there and back alone
there_and_back : IsClosedContour middle_inside (record { vertices = []; order = 0 ∷ 1 ∷ 3 ∷ 5 ∷ []; ends = 2 ∷ 4 ∷ [] }) → ⊥
there_and_back closed = omega (arith, closed.long 0 [] (omega arith))

-- nor where its loops leave out a vertex, here the one on the edge from (1, 1) in the direction 3
left_out : IsClosedContour middle_inside (record { vertices = []; order = 0 ∷ 1 ∷ 3 ∷ 4 ∷ 2 ∷ []; ends = 5 ∷ [] }) → ⊥
unfolding mixed_edges
left_out closed = omega (arith, closed.follow.once 5 (omega arith))

-- two loops, one after the other, and where each of them ends
two_loops : loops_by (1 ∷ 3 ∷ 4 ∷ 0 ∷ 5 ∷ 2 ∷ []) ≡ (0 ∷ 1 ∷ 3 ∷ []) ∷ (2 ∷ 4 ∷ 5 ∷ []) ∷ []
unfolding walk mark_all loops_from
two_loops = refl

ends_of_two : ends_from 0 ((0 ∷ 1 ∷ 3 ∷ []) ∷ (2 ∷ 4 ∷ 5 ∷ []) ∷ []) ≡ 3 ∷ 6 ∷ []
ends_of_two = refl

-- ---- its tables

outside_at : (x y : ℕ) → x ≤ 2 → y ≤ 2 → is_border 2 (point x y) ≡ true → is_inside_at middle_inside (point x y) ≡ false
outside_at zero zero fx fy b = refl
outside_at zero (suc zero) fx fy b = refl
outside_at zero (suc (suc zero)) fx fy b = refl
outside_at (suc zero) zero fx fy b = refl
outside_at (suc zero) (suc zero) fx fy b = absurd (false≢true b)
outside_at (suc zero) (suc (suc zero)) fx fy b = refl
outside_at (suc (suc zero)) zero fx fy b = refl
outside_at (suc (suc zero)) (suc zero) fx fy b = refl
outside_at (suc (suc zero)) (suc (suc zero)) fx fy b = refl
outside_at (suc (suc (suc x))) y fx fy b = absurd (omega (arith, fx))
outside_at x (suc (suc (suc y))) fx fy b = absurd (omega (arith, fy))

sides_at : (x y : ℕ) → x < 2 → y < 2 → get_or middle_signs (place_of 2 (point x y)) 0 ≡ signs_at (is_inside_at middle_inside) (point x y)
sides_at zero zero fx fy = refl
sides_at zero (suc zero) fx fy = refl
sides_at (suc zero) zero fx fy = refl
sides_at (suc zero) (suc zero) fx fy = refl
sides_at (suc (suc x)) y fx fy = absurd (omega (arith, fx))
sides_at x (suc (suc y)) fx fy = absurd (omega (arith, fy))

middle_border : IsBordered middle_inside
middle_border =
    record {
      whole = refl;
      outside = λ p is b.
          let parts = and_parts _ _ is in
          outside_at p.x p.y (leb-true p.x 2 parts.0) (leb-true p.y 2 parts.1) b;
    }

own_tables : AreTables 2 middle_inside (nine (pos 0) (negsuc 0)) middle_signs
own_tables =
    record {
      size = refl;
      border = middle_border;
      room = refl;
      cells = refl;
      sides = λ cell x y. sides_at cell.x cell.y x y;
      exact = λ cell corner x y few mixed. refl;
    }

pub middle_tables : (out in' : ℤ) → out ≡ pos 0 → in' ≡ negsuc 0 → AreTables 2 middle_inside (nine out in') middle_signs
middle_tables out in' p q = rw (p, q) own_tables

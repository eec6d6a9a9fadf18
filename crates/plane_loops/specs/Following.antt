-- The loops of a contour, worked out from which corners of each cell are inside.
use Rattle.std.specs.Prelude.{ℕ, zero, suc, ◌+◌, ◌-◌, ◌*◌, ◌/◌, ◌%◌, ◌==◌, ℤ, pos, Bool, true, not, false, List, [], ◌∷◌, map, filter, count_by, flat_map, get_or, length, set, replicate, nat_lt, if◌then◌else◌}
use Rattle.std.specs.List.{range_with_len}
use Rattle.kuhn_cells.specs.Arrangement.{differ}
use Rattle.kuhn_cells.specs.Triangles.{has_sign}
use Rattle.mesh_laws.specs.Places.{way_up}
use Rattle.plane_loops.specs.declared.left_triangle.LeftTriangle.{LeftTriangle}
use Rattle.plane_loops.specs.declared.plane_vertex.PlaneVertex.{PlaneVertex}
use Rattle.plane_loops.specs.Planes.{PlaneEdge, PlanePoint, directions, edge_from, lower, point, upper}
use Rattle.plane_loops.specs.Segments.{edge_between}

-- ---- the vertices

-- the place of a cell in a table of the cells of a grid, and its lowest corner
abbrev pub place_of : ℕ → PlanePoint → ℕ
place_of n p = p.y * n + p.x

abbrev pub cell_at : ℕ → ℕ → PlanePoint
cell_at n place = point (place % n) (place / n)

-- the directions from the lowest corner of a cell to those on the other side, by which are inside
abbrev pub mixed_directions : ℕ → List ℕ
mixed_directions signs = filter (λ d. differ (has_sign signs 0) (has_sign signs d)) directions

-- one of them, if it is among these
abbrev pub if_mixed : ℕ → ℕ → List ℕ
if_mixed signs dir = if differ (has_sign signs 0) (has_sign signs dir) then dir ∷ [] else []

-- the edges that hold a vertex from the lowest corner of a cell
abbrev pub edges_at : ℕ → List ℕ → ℕ → List PlaneEdge
edges_at n signs place = map (edge_from (cell_at n place)) (mixed_directions (get_or signs place 0))

-- those of the first cells
unfoldable pub edges_before : ℕ → List ℕ → ℕ → List PlaneEdge
edges_before n signs cells = flat_map (edges_at n signs) (range_with_len 0 cells)

-- the vertex on an edge, by a table of the values of the points
abbrev pub vertex_by : ℕ → List ℤ → PlaneEdge → PlaneVertex
vertex_by n values e =
    let value = λ (p : PlanePoint). get_or values (place_of (n + 1) p) (pos 0) in
    record { x = e.x; y = e.y; dir = e.dir; t = way_up (value (lower e)) (value (upper e)) }

-- the edge of a vertex
abbrev pub edge_of : PlaneVertex → PlaneEdge
edge_of v = record { x = v.x; y = v.y; dir = v.dir }

-- how many of the directions that hold a vertex are less than one
abbrev pub rank_of : ℕ → ℕ → ℕ
rank_of signs dir = count_by (λ d. nat_lt d dir) (mixed_directions signs)

-- the number of the vertex on an edge
abbrev pub number_by : ℕ → List ℕ → PlaneEdge → ℕ
number_by n signs e =
    let place = place_of n (lower e) in
    length (edges_before n signs place) + rank_of (get_or signs place 0) e.dir

-- ---- their successors

abbrev pub left_with : ℕ → ℕ → ℕ → ℕ → ℕ → LeftTriangle
left_with back_x back_y a b c =
    record { back_x = back_x; back_y = back_y; a = a; b = b; c = c }

-- The triangle to the left of an edge as one goes from its inside end to its outside end, by the
-- edge's direction, and by whether its lower end is inside.
abbrev pub left_triangle : ℕ → Bool → LeftTriangle
left_triangle dir low =
    if dir == 1 then (if low then left_with 0 0 0 1 3 else left_with 0 1 3 2 0)
    else (if dir == 2 then (if low then left_with 1 0 1 3 0 else left_with 0 0 2 0 3)
    else (if low then left_with 0 0 0 3 2 else left_with 0 0 3 0 1))

-- the lowest corner of its cell
abbrev pub cell_before : PlaneEdge → LeftTriangle → PlanePoint
cell_before e t = point (e.x - t.back_x) (e.y - t.back_y)

-- The edge on which the segment ends that starts in such a triangle: it joins the third corner to
-- that of the other two from which the third differs.
abbrev pub opposite_edge : PlanePoint → LeftTriangle → Bool → PlaneEdge
opposite_edge cell t third = edge_between cell t.c (if third then t.b else t.a)

-- the same, by which corners of each cell are inside
abbrev pub triangle_by : ℕ → List ℕ → PlaneEdge → LeftTriangle
triangle_by n signs e = left_triangle e.dir (has_sign (get_or signs (place_of n (lower e)) 0) 0)

unfoldable pub next_by : ℕ → List ℕ → PlaneEdge → PlaneEdge
next_by n signs e =
    let t = triangle_by n signs e in
    let cell = cell_before e t in
    opposite_edge cell t (has_sign (get_or signs (place_of n cell) 0) t.c)

-- the successors of all vertices, by their numbers
abbrev pub successors_by : ℕ → List ℕ → List ℕ
successors_by n signs =
    map (λ e. number_by n signs (next_by n signs e)) (edges_before n signs (n * n))

-- ---- loops

-- how many vertices are not marked
abbrev pub unmarked : List Bool → ℕ
unmarked marks = count_by not marks

-- the vertices from one on, each the successor of the one before, up to the first that is marked: each
-- is marked as its turn comes, and so many at most
unfoldable pub walk : ℕ → List ℕ → List Bool → ℕ → List ℕ
walk zero next marks v = []
walk (suc more) next marks v =
    if get_or marks v true then []
    else v ∷ walk more next (set marks v true) (get_or next v 0)

-- the marks where some vertices are marked too
unfoldable pub mark_all : List Bool → List ℕ → List Bool
mark_all marks [] = marks
mark_all marks (v ∷ vs) = mark_all (set marks v true) vs

-- the loops that start at those of some vertices that are not marked when their turn comes
unfoldable pub loops_from : List ℕ → List Bool → List ℕ → List (List ℕ)
loops_from next marks [] = []
loops_from next marks (v ∷ vs) =
    let loop = walk (unmarked marks) next marks v in
    if get_or marks v true then loops_from next marks vs
    else loop ∷ loops_from next (mark_all marks loop) vs

-- those that start at a vertex or at a later one
abbrev pub rest_from : List ℕ → List Bool → ℕ → List (List ℕ)
rest_from next marks v = loops_from next marks (range_with_len v (length next - v))

-- the loops that follow the successors of vertices
abbrev pub loops_by : List ℕ → List (List ℕ)
loops_by next = loops_from next (replicate (length next) false) (range_with_len 0 (length next))

-- The segments that part the inside corners of the cells of a plane grid from the outside ones.
use Rattle.std.specs.Prelude.{ℕ, ◌-◌, min, max, Bool, ◌&&◌, List, [], ◌∷◌, flat_map, if◌then◌else◌}
use Rattle.kuhn_cells.specs.Arrangement.{differ}
use Rattle.plane_loops.specs.Planes.{PlaneEdge, PlaneGrid, PlanePoint, edge_from, further, is_inside_at, over_square}

-- a segment, by the edges of the vertices from which and to which it runs
pub record Segment : Type 0 where
  pub from : PlaneEdge
  pub to : PlaneEdge

-- three corners of a cell, as masks, counterclockwise
pub record Triangle : Type 0 where
  pub a : ℕ
  pub b : ℕ
  pub c : ℕ

-- the two triangles of a cell
abbrev pub triangles : List Triangle
triangles = record { a = 0; b = 1; c = 3 } ∷ record { a = 0; b = 3; c = 2 } ∷ []

-- a triangle, from each of its corners on
abbrev pub rotations : Triangle → List Triangle
rotations t =
    t ∷ record { a = t.b; b = t.c; c = t.a } ∷ record { a = t.c; b = t.a; c = t.b } ∷ []

-- The edge between two corners of a cell, of which one mask is a part of the other: its lower point,
-- and the direction, which is the greater mask without the lesser.
abbrev pub edge_between : PlanePoint → ℕ → ℕ → PlaneEdge
edge_between cell a b = edge_from (further cell (min a b)) (max a b - min a b)

-- The segment that cuts off the first corner of a triangle, where that corner differs from the other
-- two: it runs from ab to ac where that corner is inside, and from ac to ab where it is outside.
abbrev pub segments_at : (PlanePoint → Bool) → PlanePoint → Triangle → List Segment
segments_at inside cell t =
    let side = λ (corner : ℕ). inside (further cell corner) in
    let ab = edge_between cell t.a t.b in
    let ac = edge_between cell t.a t.c in
    if differ (side t.a) (side t.b) && differ (side t.a) (side t.c)
    then (if side t.a then record { from = ab; to = ac } else record { from = ac; to = ab }) ∷ []
    else []

-- the segments of a triangle: one where its corners differ
abbrev pub segments_in : (PlanePoint → Bool) → PlanePoint → Triangle → List Segment
segments_in inside cell t = flat_map (segments_at inside cell) (rotations t)

-- the segments of a cell
abbrev pub cell_segments : (PlanePoint → Bool) → PlanePoint → List Segment
cell_segments inside cell = flat_map (segments_in inside cell) triangles

-- the segments of all cells
unfoldable pub segments : PlaneGrid → List Segment
segments g = over_square g.n (cell_segments (is_inside_at g))

-- The contour of a plane grid, worked out.
use Rattle.std.specs.Prelude.{ℕ, ◌*◌, List, map}
use Rattle.std.specs.List.{range_with_len}
use Rattle.plane_loops.specs.Contours.{Contour, contour_with}
use Rattle.plane_loops.specs.Following.{cell_at, loops_by, successors_by}
use Rattle.plane_loops.specs.Planes.{PlaneGrid, is_inside_at}
use Rattle.plane_loops.specs.Tables.{signs_at}

-- which corners of each cell of a grid are inside, by y, then by x of the cells
abbrev pub signs_of : PlaneGrid → List ℕ
signs_of g = map (λ k. signs_at (is_inside_at g) (cell_at g.n k)) (range_with_len 0 (g.n * g.n))

-- the loops that follow the successor of each vertex
unfoldable pub contour_of : PlaneGrid → Contour
contour_of g = contour_with g (loops_by (successors_by g.n (signs_of g)))

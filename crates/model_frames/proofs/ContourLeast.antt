-- The least work of a contour is no more than its most.
use Rattle.std.proofs.Common.{◌≤◌, List, [], ◌∷◌, length, if◌then◌else◌, arith}
use Rattle.std.specs.Prelude.{◌&&◌}
use Rattle.std.proofs.lemmas.List.Sums.{sum_by-le-sum_by}
use Rattle.box_chains.specs.Chains.{is_long}
use Rattle.box_chains.specs.Counts.{first_lengths, is_first}
use Rattle.box_chains.specs.Sums.{maximum}
use Rattle.contour_lines.specs.Bound.{contour_least, contour_long_spans, contour_points, contour_spans, flat_least, flat_points, plane_lengths, plane_working_lengths, points_of_plane}
use Rattle.contour_lines.specs.Planes.{laid_flat}
use Rattle.contour_lines.specs.Ways.{planar, plane_root}
use Rattle.kuhn_cells.specs.Triangles.{GridPoint, point}
use Rattle.live_clauses.specs.declared.step.Step.{Step}
use Rattle.oct_descent.specs.Bound.{cell_spans_in, has_point, least, long_lengths, long_spans_in, sample_of}
use Rattle.oct_descent.specs.Ways.{is_working, way, way_end}
use Rattle.view_places.specs.Window.{Window, size_of}
use Rattle.model_frames.proofs.LeastWork.{cell-less, greatest-block, least-greatest, long-less, sum-less}

flat-least : (view : Window) (list : List Step) → flat_least view list ≤ flat_points view list
unfolding flat_least flat_points
flat-least view list =
    sum-less (points_of_plane (size_of view)) (λ s. least (plane_working_lengths view list (point s.i s.j s.k))) (λ s. maximum (plane_lengths view list (point s.i s.j s.k)))
    (λ s. at (point s.i s.j s.k))
  where
    at : (p : GridPoint) → least (plane_working_lengths view list p) ≤ maximum (plane_lengths view list p)
    at p =
        let n = size_of view in
        let d = planar view in
        let v = plane_root view list in
        let few = greatest-block n.x n.y n.z
        (λ cell. if has_point (d.cell (sample_of cell)) p && is_working d v (sample_of cell) then length (way_end d v (sample_of cell)).list ∷ [] else [])
        (λ cell. if has_point (d.cell (sample_of cell)) p then (if is_working d v (sample_of cell) then length (way_end d v (sample_of cell)).list else 0) ∷ [] else [])
        (λ cell. cell-less (has_point (d.cell (sample_of cell)) p) (is_working d v (sample_of cell)) (length (way_end d v (sample_of cell)).list)) in
        omega (arith, least-greatest (plane_working_lengths view list p), few)

-- the steps traced over the boxes of more than one cell are some of those traced over all
pub long-all : (view : Window) (list : List Step) → contour_long_spans view list ≤ contour_spans view list
unfolding long_spans_in cell_spans_in
long-all view list =
    let d = planar (laid_flat view) in
    let v = plane_root (laid_flat view) list in
    sum-less v.box (λ s. long_lengths d s (way d v s)) (λ s. first_lengths s (way d v s))
    (λ s. sum_by-le-sum_by (λ w. if is_long d.boxes.leaf w.box && is_first w.box s then length w.list else 0)
    (λ w. if is_first w.box s then length w.list else 0) (way d v s)
    (λ w. long-less (is_long d.boxes.leaf w.box) (is_first w.box s) (length w.list)))

pub least-most : (view : Window) (list : List Step) → contour_least view list ≤ contour_points view list
least-most view list = flat-least (laid_flat view) list

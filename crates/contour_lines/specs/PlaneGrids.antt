-- The plane grid over a view, where each place has a value.
use Rattle.std.specs.Prelude.{ℕ, ◌+◌, ℤ, map}
use Rattle.std.specs.List.{flat_map, range_with_len}
use Rattle.fixed_ops.specs.Points.{Point}
use Rattle.plane_loops.specs.Planes.{PlaneGrid}
use Rattle.view_places.specs.Window.{Window, size_of}
use Rattle.contour_lines.specs.Planes.{plane_point, within_border}

-- what counts at a point of the grid: the value of its place, or on the border the greater of that and 0
abbrev pub value_over : Window → (Point → ℤ) → ℕ → ℕ → ℤ
value_over view f i j = within_border (size_of view) i j (f (plane_point view i j))

-- the grid, whose values go by y, then by x
abbrev pub plane_over : Window → (Point → ℤ) → PlaneGrid
plane_over view f = record {
  n = view.nx;
  values = flat_map (λ j. map (λ i. value_over view f i j) (range_with_len 0 (view.nx + 1)))
      (range_with_len 0 (view.ny + 1));
}

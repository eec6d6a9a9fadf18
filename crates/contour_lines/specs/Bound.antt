-- The work that the cells of a plane grid take at most, and at least.
use Rattle.std.specs.Prelude.{ℕ, List}
use Rattle.kuhn_cells.specs.Triangles.{GridPoint}
use Rattle.live_clauses.specs.declared.step.Step.{Step}
use Rattle.oct_descent.specs.Bound.{lengths_in, long_spans_in, working_lengths_in}
use Rattle.oct_descent.specs.Kinds.{least_points, most_points, most_spans}
use Rattle.view_places.specs.Window.{Window, size_of}
use Rattle.contour_lines.specs.Planes.{laid_flat}
use Rattle.contour_lines.specs.Ways.{planar, plane, plane_root}
pub use Rattle.contour_lines.specs.Ways.{points_of_plane}

-- over a view that lies flat, the lengths of the lists that those working cells receive that have a point as
-- a corner
abbrev pub plane_lengths : Window → List Step → GridPoint → List ℕ
plane_lengths view list = lengths_in (size_of view) (planar view) (plane_root view list)

-- and none for another cell
abbrev pub plane_working_lengths : Window → List Step → GridPoint → List ℕ
plane_working_lengths view list = working_lengths_in (size_of view) (planar view) (plane_root view list)

-- the sums of the greatest and of the least of these over all points, and the steps that are traced over all
-- boxes and over those of more than one cell
unfoldable pub flat_points : Window → List Step → ℕ
flat_points view list = most_points plane view list

unfoldable pub flat_least : Window → List Step → ℕ
flat_least view list = least_points plane view list

abbrev pub flat_spans : Window → List Step → ℕ
flat_spans view list = most_spans plane view list

abbrev pub flat_long_spans : Window → List Step → ℕ
flat_long_spans view list = long_spans_in (planar view) (plane_root view list)

-- What the points of the plane grid over a view take at most: each one the length of the longest list that a
-- working cell receives that has it as a corner.
abbrev pub contour_points : Window → List Step → ℕ
contour_points view list = flat_points (laid_flat view) list

-- what they take at least: each corner of a working cell the length of the shortest such list
abbrev pub contour_least : Window → List Step → ℕ
contour_least view list = flat_least (laid_flat view) list

-- what the boxes of the plane grid take at most: each the length of the list that it receives
abbrev pub contour_spans : Window → List Step → ℕ
contour_spans view list = flat_spans (laid_flat view) list

-- What they take at least: each box of more than one cell on the way to a cell is traced. A cell alone need not
-- be, where its known corners tell enough.
abbrev pub contour_long_spans : Window → List Step → ℕ
contour_long_spans view list = flat_long_spans (laid_flat view) list

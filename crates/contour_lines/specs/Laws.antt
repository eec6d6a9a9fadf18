-- What always holds of plane grids of lists and of the work that their cells take.
use Rattle.std.specs.Prelude.{◌≡◌, ℕ, ◌+◌, ◌*◌, ◌≤◌, true, false, ℤ, List, length}
use Rattle.fixed_ops.specs.Points.{Point}
use Rattle.fixed_ops.specs.Raw.{is_inside}
use Rattle.live_clauses.specs.Steps.{IsTape}
use Rattle.live_clauses.specs.declared.step.Step.{Step}
use Rattle.plane_loops.specs.Planes.{IsBordered}
use Rattle.view_places.specs.Places.{point_of}
use Rattle.view_places.specs.Spans.{root_box_of}
use Rattle.view_places.specs.Window.{Window, IsWindow, size_of}
use Rattle.view_places.specs.declared.lattice.Lattice.TheVariants.{Grid}
use Rattle.contour_lines.specs.Bound.{contour_points, contour_spans}
use Rattle.contour_lines.specs.PlaneGrids.{plane_over}
use Rattle.contour_lines.specs.Planes.{is_on_border, laid_flat, plane_point, plane_value}

-- a view laid flat is a view, whose grid has exactly the points of the plane grid, at both ends of z
abbrev pub FlatViewsArePlanes : Type 0
FlatViewsArePlanes = (view : Window) (i j k : ℕ) → point_of (laid_flat view) Grid i j k ≡ plane_point view i j

abbrev pub FlatViewsAreViews : Type 0
FlatViewsAreViews = (view : Window) → IsWindow view → IsWindow (laid_flat view)

-- and the box of its cells is one cell high
abbrev pub FlatRootsAreLow : Type 0
FlatRootsAreLow = (view : Window) → root_box_of (laid_flat view) Grid
    ≡ record { x0 = 0; x1 = view.nx; y0 = 0; y1 = view.ny; z0 = 0; z1 = 1 }

-- no point of the border is inside
abbrev pub BordersAreOutside : Type 0
BordersAreOutside = (view : Window) (list : List Step) (i j : ℕ) → is_on_border (size_of view) i j ≡ true
    → is_inside (plane_value view list i j) ≡ false

-- so the grid over a view is bordered, whatever the values of its places are
abbrev pub PlanesAreBordered : Type 0
PlanesAreBordered = (view : Window) (f : Point → ℤ) → view.nx ≡ view.ny → IsBordered (plane_over view f)

-- the points take no more evaluations than the list has steps, at each of them
abbrev pub ContourPointsAreBounded : Type 0
ContourPointsAreBounded = (view : Window) (list : List Step) → IsWindow view → IsTape list
    → contour_points view list ≤ (view.nx + 1) * (view.ny + 1) * length list

-- and no more steps are traced than the list has, for each cell and each side of the boxes that hold it
abbrev pub ContourSpansAreBounded : Type 0
ContourSpansAreBounded = (view : Window) (list : List Step) → IsWindow view → IsTape list
    → contour_spans view list ≤ view.nx * view.ny * ((view.nx + view.ny + 1) * length list)

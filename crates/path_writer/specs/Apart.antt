-- The vertices of a contour lie apart.
use Rattle.std.specs.Prelude.{◌≡◌, ◌≢◌, AllPairs}
use Rattle.plane_loops.specs.Contours.{Contour, IsContour}
use Rattle.plane_loops.specs.declared.plane_vertex.PlaneVertex.{PlaneVertex}
use Rattle.plane_loops.specs.Planes.{IsBordered, PlaneGrid, mixed_edges}
use Rattle.plane_loops.specs.Sides.{PlanePlace, lattice_place}
use Rattle.tetra_mesh.specs.Places.{vertex_place}
use Rattle.view_places.specs.declared.lattice.Axis.TheVariants.{X, Y}
use Rattle.view_places.specs.Window.{FitsContour, IsWindow, Window}
use Rattle.path_writer.specs.Paths.{in_space, place_text}

-- the raw place of a vertex over a view
abbrev pub raw_of : Window → PlaneVertex → PlanePlace
raw_of w v = record { x = vertex_place w (in_space v) X; y = vertex_place w (in_space v) Y }

-- No two edges of a grid that hold a vertex have one lattice place of it, and no two vertices of a
-- contour of the grid one raw place over a view, or one text of that: the number texts of x and y of the
-- one are not both those of the other.
pub record LieApart (w : Window) (g : PlaneGrid) (c : Contour) : Type 0 where
  pub lattice : AllPairs (λ e f. lattice_place g e ≢ lattice_place g f) (mixed_edges g)
  pub raw : AllPairs (λ u v. raw_of w u ≢ raw_of w v) c.vertices
  pub texts : AllPairs (λ u v. place_text w u ≢ place_text w v) c.vertices

-- so it is of the contour of each bordered grid, over each view of as many cells of which a contour may
-- be drawn
abbrev pub ContoursLieApart : Type 0
ContoursLieApart =
    (w : Window) (g : PlaneGrid) (c : Contour) → IsWindow w → FitsContour w → g.n ≡ w.nx
    → IsBordered g → IsContour g c → LieApart w g c

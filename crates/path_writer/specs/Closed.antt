-- Paths of closed contours.
use Rattle.std.specs.Prelude.{◌≡◌, ℕ, List}
use Rattle.plane_loops.specs.Closed.{IsClosedContour}
use Rattle.plane_loops.specs.Contours.{Contour, IsContour}
use Rattle.plane_loops.specs.Planes.{PlaneGrid}
use Rattle.view_places.specs.Window.{Window}
use Rattle.path_writer.specs.Paths.{path_of}

-- bytes are the paths, over a view, of a contour of a grid, and that is closed
pub record AreClosedPaths (view : Window) (g : PlaneGrid) (bytes : List ℕ) : Type 0 where
  pub contour : Contour
  pub «is» : IsContour g contour
  pub written : bytes ≡ path_of view contour
  pub closed : IsClosedContour g contour

-- Contours of grids have paths.
use Rattle.std.specs.Prelude.{◌≡◌, length}
use Rattle.plane_loops.specs.Contours.{AreJoined, AreLoops, Contour, IsContour}
use Rattle.plane_loops.specs.Planes.{PlaneGrid, mixed_edges}
use Rattle.view_places.specs.Window.{Window}
use Rattle.path_writer.specs.Paths.{loops_of}
use Rattle.path_writer.specs.Written.{CanBeWritten}

-- a contour of a grid has paths over a view, which run along its loops
pub record HasItsPaths (w : Window) (g : PlaneGrid) (c : Contour) : Type 0 where
  pub written : CanBeWritten w c
  pub follow : AreLoops (length (mixed_edges g)) (AreJoined g) (loops_of c)

-- so it is of the contours of all grids that have as many cells as the view's
abbrev pub ContoursHavePaths : Type 0
ContoursHavePaths =
    (w : Window) (g : PlaneGrid) (c : Contour) → g.n ≡ w.nx → g.n ≡ w.ny → IsContour g c
    → HasItsPaths w g c

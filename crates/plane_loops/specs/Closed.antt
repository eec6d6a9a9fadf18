-- Contours are closed.
use Rattle.std.specs.Prelude.{◌≤◌, All, Contains, length}
use Rattle.plane_loops.specs.Contours.{AreJoined, AreLoops, Contour, IsContour, loops_of}
use Rattle.plane_loops.specs.Laws.{HasDistinctSegments, HasOneEachWay}
use Rattle.plane_loops.specs.Planes.{IsBordered, PlaneEdge, PlaneGrid, mixed_edges}

-- The loops of a contour run along the segments of a grid, each vertex on one loop, once; every loop has
-- at least three vertices; no segment is listed twice, and of them exactly one leaves each vertex and
-- exactly one arrives there.
pub record IsClosedContour (g : PlaneGrid) (c : Contour) : Type 0 where
  pub follow : AreLoops (length (mixed_edges g)) (AreJoined g) (loops_of c)
  pub long : All (λ loop. 3 ≤ length loop) (loops_of c)
  pub distinct : HasDistinctSegments g
  pub each_way : (e : PlaneEdge) → Contains (mixed_edges g) e → HasOneEachWay g e

-- so it is of each contour of a bordered grid
abbrev pub ContoursAreClosed : Type 0
ContoursAreClosed = (g : PlaneGrid) (c : Contour) → IsBordered g → IsContour g c → IsClosedContour g c

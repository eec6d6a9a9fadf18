-- What always holds of contours.
use Rattle.std.specs.Prelude.{◌≡◌, ◌≢◌, ℕ, ◌≤◌, List, All, AllPairs, Contains, length}
use Rattle.plane_loops.specs.Contours.{AreJoined, AreLoops, Contour, IsContour}
use Rattle.plane_loops.specs.Planes.{IsBordered, PlaneEdge, PlaneGrid, mixed_edges}
use Rattle.plane_loops.specs.Segments.{Segment, segments}
use Rattle.plane_loops.specs.WorkedOut.{contour_of}

-- a bordered grid has exactly one contour
pub record HasOneContour (g : PlaneGrid) : Type 0 where
  pub contour : Contour
  pub «is» : IsContour g contour
  pub only : (other : Contour) → IsContour g other → other ≡ contour

abbrev pub OneContour : Type 0
OneContour = (g : PlaneGrid) → IsBordered g → HasOneContour g

-- which is the one that is worked out
abbrev pub ContoursAreWorkedOut : Type 0
ContoursAreWorkedOut = (g : PlaneGrid) → IsBordered g → IsContour g (contour_of g)

-- no segment of a grid is listed twice
abbrev pub HasDistinctSegments : PlaneGrid → Type 0
HasDistinctSegments g = AllPairs (λ s t. s ≢ t) (segments g)

abbrev pub SegmentsAreDistinct : Type 0
SegmentsAreDistinct = (g : PlaneGrid) → HasDistinctSegments g

-- of the segments of a grid exactly one leaves the vertex on an edge, and exactly one arrives there
pub record HasOneEachWay (g : PlaneGrid) (e : PlaneEdge) : Type 0 where
  pub next : PlaneEdge
  pub leaves : Contains (segments g) (record { from = e; to = next })
  pub leaves_alone : (f : PlaneEdge) → Contains (segments g) (record { from = e; to = f }) → f ≡ next
  pub previous : PlaneEdge
  pub arrives : Contains (segments g) (record { from = previous; to = e })
  pub arrives_alone : (f : PlaneEdge) → Contains (segments g) (record { from = f; to = e })
      → f ≡ previous

abbrev pub OneSegmentEachWay : Type 0
OneSegmentEachWay =
    (g : PlaneGrid) → IsBordered g → (e : PlaneEdge) → Contains (mixed_edges g) e
    → HasOneEachWay g e

-- the segments of a grid run from vertices to vertices
pub record RunsBetweenVertices (g : PlaneGrid) (s : Segment) : Type 0 where
  pub from : Contains (mixed_edges g) s.from
  pub to : Contains (mixed_edges g) s.to

abbrev pub SegmentsJoinVertices : Type 0
SegmentsJoinVertices =
    (g : PlaneGrid) → IsBordered g → (s : Segment) → Contains (segments g) s
    → RunsBetweenVertices g s

-- every loop of a contour has at least three vertices
abbrev pub LoopsAreLong : Type 0
LoopsAreLong =
    (g : PlaneGrid) → IsBordered g → (loops : List (List ℕ))
    → AreLoops (length (mixed_edges g)) (AreJoined g) loops → All (λ loop. 3 ≤ length loop) loops

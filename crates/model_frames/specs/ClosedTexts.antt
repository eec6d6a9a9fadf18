-- The paths of a contour are closed.
use Rattle.std.specs.Prelude.{ℕ, List}
use Rattle.path_writer.specs.Closed.{AreClosedPaths}
use Rattle.solid_model.specs.declared.clause.Clause.{Clause}
use Rattle.view_places.specs.Window.{FitsContour, Window}
use Rattle.model_frames.specs.Contours.{contour_text, solid_plane}

-- Bytes are the paths of the contour of a solid over a view: its loops run along the segments of the
-- plane grid, each vertex on one loop, once; every loop has at least three vertices; no segment is listed
-- twice, and of them exactly one leaves each vertex and exactly one arrives there.
abbrev pub IsClosedText : Window → List Clause → List ℕ → Type 0
IsClosedText view clauses bytes = AreClosedPaths view (solid_plane view clauses) bytes

-- so it is of each solid, over each view of which a contour may be drawn
abbrev pub ContourTextsAreClosed : Type 0
ContourTextsAreClosed = (view : Window) (clauses : List Clause) → FitsContour view
    → IsClosedText view clauses (contour_text view clauses)

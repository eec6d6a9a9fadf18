-- The contour of a solid over a view, as path data, and the work that it takes.
use Rattle.std.specs.Prelude.{ℕ, ◌+◌, ◌*◌, List, length}
use Rattle.box_chains.specs.Tallied.{work_of}
use Rattle.contour_lines.specs.Bound.{contour_least, contour_long_spans, contour_points, contour_spans}
use Rattle.contour_lines.specs.PlaneGrids.{plane_over}
use Rattle.live_clauses.specs.Live.{root_of}
use Rattle.model_frames.specs.Work.{Work}
use Rattle.path_writer.specs.Paths.{path_of}
use Rattle.plane_loops.specs.Planes.{PlaneGrid}
use Rattle.plane_loops.specs.WorkedOut.{contour_of}
use Rattle.solid_model.specs.Values.{solid_value}
use Rattle.solid_model.specs.declared.clause.Clause.{Clause}
use Rattle.view_places.specs.Window.{Window}

-- the plane grid of a solid: the values of all its clauses at each point, none of the border inside
abbrev pub solid_plane : Window → List Clause → PlaneGrid
solid_plane view clauses = plane_over view (λ p. solid_value p clauses)

-- its contour, as path data
abbrev pub contour_text : Window → List Clause → List ℕ
contour_text view clauses = path_of view (contour_of (solid_plane view clauses))

-- how many evaluations evaluating each of so many clauses once at each point takes
abbrev pub plain_contour : Window → ℕ → ℕ
plain_contour view clauses = (view.nx + 1) * (view.ny + 1) * clauses

-- The work of a contour: at each corner of a working cell an evaluation of the shortest list at least,
-- and of the longest at most, that a working cell there receives; at least the steps traced over the boxes
-- of more than one cell, at most those over all boxes; and beside it what all clauses would take.
abbrev pub contour_work : Window → List Clause → Work
contour_work view clauses =
    let spans = contour_spans view (root_of clauses) in
    record {
      least = work_of (contour_least view (root_of clauses)) (contour_long_spans view (root_of clauses)) 0;
      most = work_of (contour_points view (root_of clauses)) spans (4 * spans);
      bound = work_of (contour_points view (root_of clauses)) spans (4 * spans);
      plain = plain_contour view (length clauses);
    }

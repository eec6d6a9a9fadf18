-- The paths of a contour are closed, and those of a list that has a solid's values are the solid's.
use Rattle.std.proofs.Common.{◌≡◌, List, refl, sym, ap, subst, ◌∙◌}
use Rattle.contour_lines.specs.PlaneGrids.{plane_over}
use Rattle.fixed_ops.specs.Points.{Point}
use Rattle.live_clauses.specs.Steps.{tape_value}
use Rattle.live_clauses.specs.declared.step.Step.{Step}
use Rattle.path_writer.specs.Paths.{path_of}
use Rattle.plane_loops.specs.Contours.{Contour, IsContour}
use Rattle.plane_loops.specs.Planes.{IsBordered, PlaneGrid}
use Rattle.plane_loops.specs.WorkedOut.{contour_of}
use Rattle.solid_model.specs.Values.{solid_value}
use Rattle.solid_model.specs.declared.clause.Clause.{Clause}
use Rattle.view_places.specs.Window.{Window}
use Rattle.model_frames.specs.ClosedTexts.{ContourTextsAreClosed}
use Rattle.model_frames.specs.Contours.{contour_text, solid_plane}
use Rattle.plane_loops.proofs.Closing.{contours_are_closed}
use Rattle.contour_lines.proofs.Joins.{planes_are_bordered}
use Rattle.plane_loops.proofs.JoinLaws.{one_contour, worked_out}

pub texts_closed : ContourTextsAreClosed
texts_closed view clauses fits =
    let g = solid_plane view clauses in
    let border = planes_are_bordered view (λ p. solid_value p clauses) fits.square in
    let contour = worked_out g border in
    record { contour = contour_of g; «is» = contour; written = refl; closed = contours_are_closed g (contour_of g) border contour }

-- two contours of a grid are one
only : (g : PlaneGrid) → IsBordered g → (c : Contour) → IsContour g c → c ≡ contour_of g
only g border c «is» = (one_contour g border).only c «is» ∙ sym ((one_contour g border).only (contour_of g) (worked_out g border))

-- the grid of a list that has the solid's values is the solid's
pub plane_same : (view : Window) (clauses : List Clause) (list : List Step) → ((p : Point) → tape_value p list ≡ solid_value p clauses)
    → plane_over view (λ p. tape_value p list) ≡ solid_plane view clauses
plane_same view clauses list same = λ k. plane_over view (λ p. same p k)

-- so the contour of such a list is the solid's
pub contour_same : (view : Window) (clauses : List Clause) (list : List Step) → view.nx ≡ view.ny
    → ((p : Point) → tape_value p list ≡ solid_value p clauses) → (loops : Contour) → IsContour (plane_over view (λ p. tape_value p list)) loops
    → path_of view loops ≡ contour_text view clauses
contour_same view clauses list square same loops drawn =
    let g = solid_plane view clauses in
    let border = planes_are_bordered view (λ p. solid_value p clauses) square in
    ap (path_of view) (only g border loops (subst (λ h. IsContour h loops) (plane_same view clauses list same) drawn))

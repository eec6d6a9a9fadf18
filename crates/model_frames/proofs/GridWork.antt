-- What looking into the boxes of a grid takes.
use Rattle.std.proofs.Common.{◌≡◌, ℕ, ◌+◌, ◌*◌, ◌≤◌, List, length, max, Ok, Err, ap, refl, subst, sym, ◌∙◌, arith, mul-le-mul_left}
use Rattle.std.specs.Prelude.{IfOk, OnOk, None, Result}
use Rattle.box_chains.specs.Tallied.{CountsAtMost, work_of}
use Rattle.fixed_ops.specs.Counts.{Counts, RisesWithin, risen}
use Rattle.fixed_ops.specs.Points.{Point}
use Rattle.grid_text.specs.Texts.{text_of}
use Rattle.kuhn_cells.specs.declared.cell_list.CellList.{CellList}
use Rattle.kuhn_cells.specs.Grids.{Grid}
use Rattle.kuhn_cells.specs.Lists.{ListsCells}
use Rattle.live_clauses.specs.Live.{root_of}
use Rattle.live_clauses.specs.Steps.{IsTape, tape_value}
use Rattle.live_clauses.specs.declared.step.Step.{Step}
use Rattle.oct_descent.specs.Bound.{CountsAtLeast, CountsHullsAtLeast, mesh_least, mesh_long_spans, mesh_points, mesh_spans}
use Rattle.oct_descent.specs.GridValues.{list_grid as list_grid}
use Rattle.oct_descent.specs.Laws.{MeshPointsAreBounded}
use Rattle.oct_descent.specs.Trees.{Gridding}
use Rattle.ply_writer.specs.Ply.{ply_of}
use Rattle.solid_model.specs.Values.{solid_value}
use Rattle.solid_model.specs.declared.clause.Clause.{Clause}
use Rattle.tetra_mesh.specs.Cuts.{mesh_of}
use Rattle.view_places.specs.Window.{IsWindow, Window, size_of}
use Rattle.model_frames.specs.Meshes.{grid_of, mesh_text, plain_grid}
use Rattle.model_frames.specs.Work.{CountsWithin, CountsWork, PointsRiseAtMost, grid_work, mesh_work}
use Rattle.model_frames.proofs.Frames.{on_ok, plain-within, root-few}
use Rattle.model_frames.proofs.MeshLaws.{grid_same, solid_text}
use Rattle.model_frames.proofs.LeastWork.{least-most, long-all}

-- the grid of a list is that of its values
pub list_grid_is : (view : Window) (list : List Step) → list_grid view list ≡ grid_of view (λ p. tape_value p list)
unfolding list_grid grid_of
list_grid_is view list = refl

-- what is counted of a list is counted of its root list
pub mesh_within : (before after : Counts) (view : Window) (clauses : List Clause) (list : List Step) → list ≡ root_of clauses
    → CountsAtMost (mesh_points view list) (mesh_spans view list) before after → CountsWithin before after (mesh_work view clauses)
unfolding CountsWithin
mesh_within before after view clauses list is h =
    let root = subst (λ l. CountsAtMost (mesh_points view l) (mesh_spans view l) before after) is h in
    record { by = root.by; within = root.few; rises = root.rises }

-- A count that rises by some number and by another, too, rises by any between them.
risen-between : (before after few many low : ℕ) → after ≡ risen before few → after ≡ risen before many → low ≤ many → after ≡ risen before (max few low)
risen-between before after few many low a b less = omega (arith, a, b, less)

counts-same : (counts : Counts) (points spans corners : ℕ) → counts.points ≡ points → counts.spans ≡ spans → counts.corners ≡ corners
    → counts ≡ work_of points spans corners
counts-same counts points spans corners p s c = λ k. record { points = p k; spans = s k; corners = c k }

-- what is counted at most and at least lies between these
pub between : (before after : Counts) (points spans low long : ℕ) → low ≤ points → long ≤ spans → CountsAtMost points spans before after
    → CountsAtLeast low before after → CountsHullsAtLeast long before after → RisesWithin before after (work_of low long 0) (work_of points spans (4 * spans))
between before after points spans low long p s h few hulls = record {
  by = work_of (max h.by.points low) (max h.by.spans long) h.by.corners;
  enough = record { points = omega arith; spans = omega arith; corners = omega arith };
  within = record {
    points = omega (arith, h.few.points, p);
    spans = omega (arith, h.few.spans, s);
    corners = h.few.corners;
  };
  rises = counts-same after (risen before.points (max h.by.points low)) (risen before.spans (max h.by.spans long)) (risen before.corners h.by.corners)
      (risen-between before.points after.points h.by.points few.by.points low (ap (λ c. c.points) h.rises) (ap (λ c. c.points) few.rises) few.many)
      (risen-between before.spans after.spans h.by.spans hulls.by.spans long (ap (λ c. c.spans) h.rises) (ap (λ c. c.spans) hulls.rises) hulls.many)
      (ap (λ c. c.corners) h.rises);
}

-- so it is of a mesh that is made
pub mesh-done : (before after : Counts) (view : Window) (list : List Step) (plain : ℕ) → CountsAtMost (mesh_points view list) (mesh_spans view list) before after
    → CountsAtLeast (mesh_least view list) before after → CountsHullsAtLeast (mesh_long_spans view list) before after
    → CountsWork before after (grid_work None view list plain)
unfolding CountsWork
mesh-done before after view list plain h points spans =
    between before after (mesh_points view list) (mesh_spans view list) (mesh_least view list) (mesh_long_spans view list) (least-most view list) (long-all view list) h points spans

pub mesh_counted : {T E : Type 0} (r : Result T E) (before after : Counts) (view : Window) (clauses : List Clause) (list : List Step) → list ≡ root_of clauses
    → CountsAtMost (mesh_points view list) (mesh_spans view list) before after → CountsAtLeast (mesh_least view list) before after
    → CountsHullsAtLeast (mesh_long_spans view list) before after → OnOk r (CountsWork before after (mesh_work view clauses))
mesh_counted r before after view clauses list is h points spans =
    on_ok r _ (mesh-done before after view (root_of clauses) (plain_grid view (length clauses))
    (subst (λ l. CountsAtMost (mesh_points view l) (mesh_spans view l) before after) is h)
    (subst (λ l. CountsAtLeast (mesh_least view l) before after) is points)
    (subst (λ l. CountsHullsAtLeast (mesh_long_spans view l) before after) is spans))

-- a mesh takes no more evaluations than evaluating each clause at each point of the grid
pub mesh-few : (view : Window) (clauses : List Clause) (list : List Step) → list ≡ root_of clauses → IsWindow view → IsTape list
    → MeshPointsAreBounded → mesh_points view (root_of clauses) ≤ plain_grid view (length clauses)
mesh-few view clauses list is window tape points =
    let nx = view.nx + 1 in
    let ny = view.ny + 1 in
    let nz = view.nz + 1 in
    let most = points view (root_of clauses) window (subst IsTape is tape) in
    let less : nx * (ny * (nz * length (root_of clauses))) ≤ plain_grid view (length clauses) = mul-le-mul_left nx (mul-le-mul_left ny (mul-le-mul_left nz (root-few clauses))) in
    let same : nx * (ny * nz) * length (root_of clauses) ≡ nx * (ny * (nz * length (root_of clauses))) = grind arith in
    omega (arith, most, same, less)

pub mesh_plain : (before after : Counts) (view : Window) (clauses : List Clause) (list : List Step) → list ≡ root_of clauses → IsWindow view → IsTape list
    → MeshPointsAreBounded → CountsWithin before after (mesh_work view clauses) → PointsRiseAtMost before after (plain_grid view (length clauses))
mesh_plain before after view clauses list is window tape points h =
    plain-within before after (mesh_work view clauses) (plain_grid view (length clauses)) (mesh-few view clauses list is window tape points) h

-- the same, where no grid is known yet
pub mesh_counted_then : {T E : Type 0} (r : Result T E) (before after : Counts) (view : Window) (clauses : List Clause) (list : List Step) → list ≡ root_of clauses
    → CountsAtMost (mesh_points view list) (mesh_spans view list) before after → OnOk r (CountsAtLeast (mesh_least view list) before after)
    → OnOk r (CountsHullsAtLeast (mesh_long_spans view list) before after) → OnOk r (CountsWork before after (mesh_work view clauses))
mesh_counted_then {E = E} (Ok made) before after view clauses list is h points spans = mesh_counted {E = E} (Ok made) before after view clauses list is h points spans
mesh_counted_then (Err why) before after view clauses list is h points spans = points

-- the cells that a tree of a list lists are those of the list's grid
pub cells-same : {E : Type 0} (r : Result CellList E) (view : Window) (list : List Step) (tree : Gridding) → tree ≡ record { view = view; list = list }
    → IfOk r (λ cells. ListsCells (size_of tree.view) cells (list_grid tree.view tree.list)) → IfOk r (λ cells. ListsCells (size_of view) cells (grid_of view (λ p. tape_value p list)))
cells-same r view list tree is =
    subst (λ (g : Grid). IfOk r (λ cells. ListsCells (size_of tree.view) cells (list_grid tree.view tree.list)) → IfOk r (λ cells. ListsCells (size_of view) cells g)) (list_grid_is view list)
    (λ h. subst (λ (t : Gridding). IfOk r (λ cells. ListsCells (size_of t.view) cells (list_grid t.view t.list))) is h)

-- the text of the mesh of a tree's grid is that of the solid whose values the list has
pub text_same : {E : Type 0} (r : Result Gridding E) (view : Window) (clauses : List Clause) (list : List Step) → ((p : Point) → tape_value p list ≡ solid_value p clauses)
    → IfOk r (λ tree. tree ≡ record { view = view; list = list }) → IfOk r (λ tree. text_of tree.view tree.list ≡ mesh_text view clauses)
text_same (Ok tree) view clauses list same is =
    subst (λ (t : Gridding). text_of t.view t.list ≡ mesh_text view clauses) (sym is)
    (ap (λ g. ply_of view (mesh_of g).vertices (mesh_of g).faces) (list_grid_is view list ∙ grid_same view clauses list same) ∙ solid_text view clauses)
text_same (Err why) view clauses list same is = is

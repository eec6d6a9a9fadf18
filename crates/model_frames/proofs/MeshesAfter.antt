-- What looking into the boxes of a grid takes after another grid.
use Rattle.std.proofs.Common.{◌≡◌, ℕ, ◌≤◌, true, List, length, Ok, Err, subst, sym, arith}
use Rattle.std.specs.Prelude.{OnOk, Option, Some, None, Result, if◌then◌else◌}
use Rattle.box_chains.specs.Tallied.{CountsAtMost}
use Rattle.fixed_ops.specs.Counts.{Counts}
use Rattle.live_clauses.specs.Live.{root_of}
use Rattle.live_clauses.specs.Steps.{IsTape}
use Rattle.live_clauses.specs.declared.step.Step.{Step}
use Rattle.oct_descent.specs.After.{mesh_least_after, mesh_long_spans_after, mesh_points_after, mesh_spans_after}
use Rattle.oct_descent.specs.AfterLaws.{MeshesAfterAddUp}
use Rattle.oct_descent.specs.Bound.{CountsAtLeast, CountsHullsAtLeast, mesh_least, mesh_long_spans, mesh_points, mesh_spans}
use Rattle.oct_descent.specs.Laws.{MeshPointsAreBounded}
use Rattle.oct_descent.specs.Trees.{Gridding}
use Rattle.solid_model.specs.declared.clause.Clause.{Clause}
use Rattle.view_places.specs.Window.{IsWindow, Window, same_view}
use Rattle.model_frames.specs.Meshes.{grid_before, plain_grid}
use Rattle.model_frames.specs.Work.{CountsWithin, CountsWork, PointsRiseAtMost, grid_work, mesh_work_after}
use Rattle.model_frames.proofs.Frames.{plain-within}
use Rattle.model_frames.proofs.GridWork.{between, mesh-done, mesh-few}
use Rattle.model_frames.proofs.LeastWork.{after-least, after-long}

-- what a fresh grid counts
pub fresh-within : (before after : Counts) (view : Window) (list : List Step) (plain : ℕ) → CountsAtMost (mesh_points view list) (mesh_spans view list) before after
    → CountsWithin before after (grid_work None view list plain)
unfolding CountsWithin
fresh-within before after view list plain h = record { by = h.by; within = h.few; rises = h.rises }

pub fresh-counted : {T E : Type 0} (r : Result T E) (before after : Counts) (view : Window) (list : List Step) (plain : ℕ)
    → CountsAtMost (mesh_points view list) (mesh_spans view list) before after → OnOk r (CountsAtLeast (mesh_least view list) before after)
    → OnOk r (CountsHullsAtLeast (mesh_long_spans view list) before after) → OnOk r (CountsWork before after (grid_work None view list plain))
fresh-counted (Ok made) before after view list plain h points spans = mesh-done before after view list plain h points spans
fresh-counted (Err why) before after view list plain h points spans = points

-- what one counts after another over the same view
old-within : (before after : Counts) (view : Window) (was list : List Step) (plain : ℕ)
    → CountsAtMost (mesh_points_after view (Some was) list) (mesh_spans_after view (Some was) list) before after
    → CountsWithin before after (grid_work (Some was) view list plain)
unfolding CountsWithin
old-within before after view was list plain h = record { by = h.by; within = h.few; rises = h.rises }

old-done : (before after : Counts) (view : Window) (was list : List Step) (plain : ℕ)
    → CountsAtMost (mesh_points_after view (Some was) list) (mesh_spans_after view (Some was) list) before after
    → CountsAtLeast (mesh_least_after view (Some was) list) before after
    → CountsHullsAtLeast (mesh_long_spans_after view (Some was) list) before after → CountsWork before after (grid_work (Some was) view list plain)
unfolding CountsWork
old-done before after view was list plain h points spans =
    between before after (mesh_points_after view (Some was) list) (mesh_spans_after view (Some was) list) (mesh_least_after view (Some was) list)
    (mesh_long_spans_after view (Some was) list) (after-least view (Some was) list) (after-long view (Some was) list) h points spans

-- and it is the mesh before where that had this very view
pub same-within : (before after : Counts) (tree : Gridding) (view : Window) (list : List Step) → same_view tree.view view ≡ true → tree.view ≡ view
    → CountsAtMost (mesh_points_after tree.view (Some tree.list) list) (mesh_spans_after tree.view (Some tree.list) list) before after
    → CountsWithin before after (grid_work (grid_before (Some tree) view) view list 0)
same-within before after tree view list test same h =
    subst (λ b. CountsWithin before after (grid_work (if b then Some tree.list else None) view list 0)) (sym test)
    (subst (λ v. CountsWithin before after (grid_work (Some tree.list) v list 0)) same (old-within before after tree.view tree.list list 0 h))

pub same-counted : {T E : Type 0} (r : Result T E) (before after : Counts) (tree : Gridding) (view : Window) (list : List Step) → same_view tree.view view ≡ true → tree.view ≡ view
    → CountsAtMost (mesh_points_after tree.view (Some tree.list) list) (mesh_spans_after tree.view (Some tree.list) list) before after
    → OnOk r (CountsAtLeast (mesh_least_after tree.view (Some tree.list) list) before after)
    → OnOk r (CountsHullsAtLeast (mesh_long_spans_after tree.view (Some tree.list) list) before after)
    → OnOk r (CountsWork before after (grid_work (grid_before (Some tree) view) view list 0))
same-counted (Err why) before after tree view list test same h points spans = spans
same-counted (Ok made) before after tree view list test same h points spans =
    subst (λ b. CountsWork before after (grid_work (if b then Some tree.list else None) view list 0)) (sym test)
    (subst (λ v. CountsWork before after (grid_work (Some tree.list) v list 0)) same (old-done before after tree.view tree.list list 0 h points spans))

-- what a list counts is what its root list does, whatever all clauses would take
within-plain : (before after : Counts) (was : Option (List Step)) (view : Window) (list : List Step) (m n : ℕ)
    → CountsWithin before after (grid_work was view list m) → CountsWithin before after (grid_work was view list n)
unfolding CountsWithin
within-plain before after None view list m n h = h
within-plain before after (Some was) view list m n h = h

done-plain : (before after : Counts) (was : Option (List Step)) (view : Window) (list : List Step) (m n : ℕ)
    → CountsWork before after (grid_work was view list m) → CountsWork before after (grid_work was view list n)
unfolding CountsWork
done-plain before after None view list m n h = h
done-plain before after (Some was) view list m n h = h

pub after_within : (before after : Counts) (was : Option Gridding) (view : Window) (clauses : List Clause) (list : List Step) → list ≡ root_of clauses
    → CountsWithin before after (grid_work (grid_before was view) view list 0) → CountsWithin before after (mesh_work_after was view clauses)
after_within before after was view clauses list is h =
    subst (λ l. CountsWithin before after (grid_work (grid_before was view) view l (plain_grid view (length clauses)))) is
    (within-plain before after (grid_before was view) view list 0 (plain_grid view (length clauses)) h)

pub after_counted : {T E : Type 0} (r : Result T E) (before after : Counts) (was : Option Gridding) (view : Window) (clauses : List Clause) (list : List Step) → list ≡ root_of clauses
    → OnOk r (CountsWork before after (grid_work (grid_before was view) view list 0)) → OnOk r (CountsWork before after (mesh_work_after was view clauses))
after_counted (Err why) before after was view clauses list is h = h
after_counted (Ok made) before after was view clauses list is h =
    subst (λ l. CountsWork before after (grid_work (grid_before was view) view l (plain_grid view (length clauses)))) is
    (done-plain before after (grid_before was view) view list 0 (plain_grid view (length clauses)) h)

-- after another mesh, too, no more is evaluated than each clause at each point of the grid
after-few : (was : Option (List Step)) (view : Window) (list : List Step) (plain : ℕ) → MeshesAfterAddUp → mesh_points view list ≤ plain
    → (grid_work was view list plain).bound.points ≤ plain
after-few None view list plain laws few = few
after-few (Some was) view list plain laws few = omega (arith, few, laws.most_points view (Some was) list)

pub after_plain : (before after : Counts) (was : Option Gridding) (view : Window) (clauses : List Clause) (list : List Step) → list ≡ root_of clauses → IsWindow view → IsTape list
    → MeshPointsAreBounded → MeshesAfterAddUp → CountsWithin before after (mesh_work_after was view clauses) → PointsRiseAtMost before after (plain_grid view (length clauses))
after_plain before after was view clauses list is window tape points laws h =
    plain-within before after (mesh_work_after was view clauses) (plain_grid view (length clauses))
    (after-few (grid_before was view) view (root_of clauses) (plain_grid view (length clauses)) laws (mesh-few view clauses list is window tape points)) h

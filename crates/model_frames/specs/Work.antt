-- The work that frames take, and how it is counted.
use Rattle.std.specs.Prelude.{◌≡◌, ℕ, ◌+◌, ◌*◌, ◌^◌, ◌<◌, ◌≤◌, List, length, Option, Some, None}
use Rattle.fixed_ops.specs.Counts.{Counts, RisesAtMost, RisesWithin, no_counts, plus, risen}
use Rattle.height_map.specs.Bound.{height_points, height_spans, near_spans}
use Rattle.live_clauses.specs.Live.{root_of}
use Rattle.live_clauses.specs.declared.step.Step.{Step}
use Rattle.box_chains.specs.Tallied.{work_of}
use Rattle.oct_descent.specs.After.{mesh_least_after, mesh_long_spans_after, mesh_points_after, mesh_spans_after}
use Rattle.oct_descent.specs.Bound.{mesh_least, mesh_long_spans, mesh_points, mesh_spans}
use Rattle.oct_descent.specs.Trees.{Gridding}
use Rattle.normal_shade.specs.Shades.{shade_points, shade_spans}
use Rattle.quad_descent.specs.Raster.{Drawing, frame_points, frame_spans, fresh_points, fresh_spans}
use Rattle.solid_model.specs.declared.clause.Clause.{Clause}
use Rattle.view_places.specs.Window.{Window}
use Rattle.model_frames.specs.Heights.{plain_depths}
use Rattle.model_frames.specs.Images.{list_before, plain_points}
use Rattle.model_frames.specs.Meshes.{grid_before, plain_grid}
use Rattle.model_frames.specs.Shades.{plain_shades}

-- What a frame takes: where it is drawn, at least and at most so many evaluations, traced steps and
-- corners of hulls, and no more than so many whatever stops it; and the evaluations that evaluating
-- each clause once at each sample would take.
pub record Work : Type 0 where
  pub least : Counts
  pub most : Counts
  pub bound : Counts
  pub plain : ℕ

-- no work
abbrev pub no_work : Work
no_work = record { least = no_counts; most = no_counts; bound = no_counts; plain = 0 }

-- the work of two frames
abbrev pub both : Work → Work → Work
both a b = record {
  least = plus a.least b.least;
  most = plus a.most b.most;
  bound = plus a.bound b.bound;
  plain = a.plain + b.plain;
}

-- exactly so many evaluations and traced steps, with at most four corners for each of these
abbrev pub exactly : ℕ → ℕ → ℕ → Work
exactly points spans plain = record {
  least = work_of points spans 0;
  most = work_of points spans (4 * spans);
  bound = work_of points spans (4 * spans);
  plain = plain;
}

-- the work of a fresh image of a solid over a view: exactly that of its root list, and beside it
-- what all clauses would take
abbrev pub frame_work : Window → List Clause → Work
frame_work view clauses =
    exactly (fresh_points view (root_of clauses)) (fresh_spans view (root_of clauses))
    (plain_points view (length clauses))

-- the work of an image of a solid over a view after another one: exactly that of the boxes which that
-- one did not have with an equal list, where it had this view, and else that of a fresh image
abbrev pub image_work : Option Drawing → Window → List Clause → Work
image_work before view clauses =
    let list = list_before before view in
    exactly (frame_points view list (root_of clauses)) (frame_spans view list (root_of clauses))
    (plain_points view (length clauses))

-- the work of a height map of a solid over a view: exactly the evaluations of the samples that do
-- not lie behind a top, and the steps traced on the ways to them; and beside it what all clauses
-- would take
abbrev pub height_work : Window → List Clause → Work
height_work view clauses =
    let points = height_points view (root_of clauses) in
    let near = near_spans view (root_of clauses) in
    let spans = height_spans view (root_of clauses) in
    record {
      least = work_of points near 0;
      most = work_of points near (4 * spans);
      bound = work_of points spans (4 * spans);
      plain = plain_depths view (length clauses);
    }

-- The work of the derivatives of a shaded height map: exactly the evaluations of the value and the derivatives,
-- at each top sample, of the list that the last box on the way to it prunes, and the steps traced over the
-- boxes on these ways; and beside it ten evaluations of each clause in each column.
abbrev pub slopes_work : Window → List Clause → Work
slopes_work view clauses =
    exactly (shade_points view (root_of clauses)) (shade_spans view (root_of clauses))
    (10 * (view.h * view.w * length clauses))

-- the work of a shaded height map: that of the height map, and then that of the slopes
abbrev pub shade_work : Window → List Clause → Work
shade_work view clauses =
    record (both (height_work view clauses) (slopes_work view clauses)) {
      plain = plain_shades view (length clauses);
    }

-- The work of a mesh of a list over a view, and beside it what all clauses would take. Of a fresh one it
-- is at each corner of a working cell an evaluation of the shortest list at least, and of the longest at
-- most, that a working cell there receives; and at least the steps traced over the boxes of more than
-- one cell, at most those over all boxes. After the mesh of another list over the same view, only those
-- boxes and working cells take work that this other mesh did not have with an equal list; a corner that
-- such a cell shares with one that is old may take none.
abbrev pub grid_work : Option (List Step) → Window → List Step → ℕ → Work
grid_work None view list plain =
    let spans = mesh_spans view list in
    record {
      least = work_of (mesh_least view list) (mesh_long_spans view list) 0;
      most = work_of (mesh_points view list) spans (4 * spans);
      bound = work_of (mesh_points view list) spans (4 * spans);
      plain = plain;
    }
grid_work (Some before) view list plain =
    let points = mesh_points_after view (Some before) list in
    let spans = mesh_spans_after view (Some before) list in
    record {
      least = work_of (mesh_least_after view (Some before) list) (mesh_long_spans_after view (Some before) list) 0;
      most = work_of points spans (4 * spans);
      bound = work_of points spans (4 * spans);
      plain = plain;
    }

-- the work of a fresh mesh of a solid over a view: that of its root list
abbrev pub mesh_work : Window → List Clause → Work
mesh_work view clauses = grid_work None view (root_of clauses) (plain_grid view (length clauses))

-- the work of a mesh of a solid over a view after another one: after the list of that one where it had
-- this very view, and else that of a fresh mesh
abbrev pub mesh_work_after : Option Gridding → Window → List Clause → Work
mesh_work_after before view clauses =
    grid_work (grid_before before view) view (root_of clauses) (plain_grid view (length clauses))

-- its evaluations and its traced steps fit a count
pub record FitsCounts (work : Work) : Type 0 where
  pub points : work.most.points < 2 ^ 64
  pub spans : work.most.spans < 2 ^ 64

-- the work is done: each count of a tally rises by what lies between its least and its most
unfoldable pub CountsWork : Counts → Counts → Work → Type 0
CountsWork before after work = RisesWithin before after work.least work.most

-- the work may have stopped: each count of a tally rises by no more than its bound
unfoldable pub CountsWithin : Counts → Counts → Work → Type 0
CountsWithin before after work = RisesAtMost before after work.bound

-- the evaluations of a tally rise by at most so many
pub record PointsRiseAtMost (before after : Counts) (most : ℕ) : Type 0 where
  pub by : ℕ
  pub few : by ≤ most
  pub rises : after.points ≡ risen before.points by

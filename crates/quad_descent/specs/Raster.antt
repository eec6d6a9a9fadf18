-- Rasters as boxes of samples, with the work that a fresh image takes.
use Rattle.std.specs.Prelude.{ℕ, List, Option}
use Rattle.box_chains.specs.Chains.{Descent, Visit}
use Rattle.box_chains.specs.declared.leaves.TheConstants.{LEAF}
use Rattle.box_chains.specs.Counts.{points_in, root_visit, spans_in}
use Rattle.box_chains.specs.Redrawn.{frame_before, points_after, spans_after}
use Rattle.live_clauses.specs.declared.step.Step.{Step}
use Rattle.view_places.specs.Window.{Window}
use Rattle.view_places.specs.declared.lattice.Lattice.TheVariants.{Raster}

-- what an image is drawn of: a list of steps over a view
pub record Drawing : Type 0 where
  pub view : Window
  pub list : List Step

-- how the samples of a raster are looked into
abbrev pub raster : Window → Descent
raster view = record { view = view; lattice = Raster; leaf = LEAF }

-- the box of all samples, with the whole list
abbrev pub raster_root : Window → List Step → Visit
raster_root view list = root_visit (raster view) list

-- the evaluations that a fresh image takes, and the steps that are traced for it
abbrev pub fresh_points : Window → List Step → ℕ
fresh_points view list = points_in (raster view) (raster_root view list)

abbrev pub fresh_spans : Window → List Step → ℕ
fresh_spans view list = spans_in (raster view) (raster_root view list)

-- the evaluations that an image takes after one of another list over the same view, where there was
-- one, and the steps that are traced for it
abbrev pub frame_points : Window → Option (List Step) → List Step → ℕ
frame_points view before list =
    points_after (raster view) (frame_before (raster view) before) (raster_root view list)

abbrev pub frame_spans : Window → Option (List Step) → List Step → ℕ
frame_spans view before list =
    spans_after (raster view) (frame_before (raster view) before) (raster_root view list)

-- What always holds of the work of descents, from the lemmas of the crates below.
use Rattle.std.proofs.Common.{◌≡◌, ℕ, ℤ, List, arith, subst, sym}
use Rattle.std.specs.Prelude.{None, Option, ◌≤ℤ◌}
use Rattle.std.proofs.lemmas.Int.{ints}
use Rattle.fixed_ops.proofs.CountLaws.{tallies_add_up_is}
use Rattle.view_places.specs.Window.{Window}
use Rattle.view_places.proofs.BoxLaws.{halves_part_is}
use Rattle.view_places.proofs.SpanLaws.{ranges, spans}
use Rattle.live_clauses.specs.declared.step.Step.{Step}
use Rattle.live_clauses.proofs.EqualityLaws.{lists_are_told_apart_is}
use Rattle.live_clauses.proofs.Theorems.{choices_keep_the_value, live_lists_are_tapes}
use Rattle.choice_trace.proofs.Traces.{choices_are_of_steps, choices_are_right, last_held}
use Rattle.box_chains.specs.Laws.{Lawful, PointsAreBounded}
use Rattle.box_chains.proofs.LawProofs.{lawful, points_are_bounded_is, spans_are_bounded_is}
use Rattle.quad_descent.specs.Laws.{FrameWorkIsBounded, FreshPointsAreBounded, FreshSpansAreBounded}
use Rattle.quad_descent.specs.Raster.{frame_points, frame_spans, fresh_points, fresh_spans}
use Rattle.quad_descent.proofs.Bounds.{frame_work_is, points_bounded as image-points, spans_bounded as image-spans}
use Rattle.oct_descent.specs.AfterLaws.{BoxesAfterAddUp, MeshesAfterAddUp}
use Rattle.oct_descent.specs.Laws.{MeshPointsAreBounded}
use Rattle.oct_descent.proofs.AfterBounds.{meshes_after_add_up_is}
use Rattle.oct_descent.proofs.AfterWork.{boxes_after_add_up_is}
use Rattle.oct_descent.proofs.Bounds.{points_bounded as mesh-points}
use Rattle.oct_descent.proofs.GridLaws.{grids_hold_is}
use Rattle.height_map.specs.Laws.{HeightPointsAreBounded}
use Rattle.height_map.proofs.Bounds.{points_bounded as height-points}
use Rattle.normal_shade.specs.Laws.{ShadePointsAreBounded}
use Rattle.normal_shade.proofs.Bounds.{points_bounded as shade-points}
use Rattle.contour_lines.specs.Laws.{ContourPointsAreBounded, FlatViewsAreViews}
use Rattle.contour_lines.specs.Planes.{laid_flat}
use Rattle.contour_lines.specs.Ways.{plane}
use Rattle.contour_lines.proofs.Borders.{borders-hold}
use Rattle.contour_lines.proofs.Work.{points_bounded as contour-points}

-- what holds of all boxes and of the lists that they receive
layers : Lawful
layers = lawful tallies_add_up_is (record {
  equal = lists_are_told_apart_is;
  halves = halves_part_is;
  ranges = ranges;
  spans = spans;
  tapes = live_lists_are_tapes;
  kept = choices_keep_the_value;
  held = last_held;
  choices = choices_are_of_steps;
  right = choices_are_right;
})

box_points : PointsAreBounded
box_points = points_are_bounded_is layers.layers

-- ---- images

pub image_points_are_bounded : FreshPointsAreBounded
image_points_are_bounded = image-points box_points

pub image_spans_are_bounded : FreshSpansAreBounded
image_spans_are_bounded = image-spans (spans_are_bounded_is layers.layers)

pub frame_work_is_bounded : FrameWorkIsBounded
frame_work_is_bounded = frame_work_is layers.redrawn

-- an image after none takes the work of a fresh one
pub work_after_none : (P : ℕ → ℕ → Type 0) (view : Window) (before : Option (List Step)) (list : List Step) → before ≡ None
    → P (fresh_points view list) (fresh_spans view list) → P (frame_points view before list) (frame_spans view before list)
work_after_none P view before list none fresh =
    subst (λ was. P (frame_points view was list) (frame_spans view was list)) (sym none)
    (subst (λ points. P points (frame_spans view None list)) (sym (frame_work_is_bounded.fresh_points_of view list))
    (subst (P (fresh_points view list)) (sym (frame_work_is_bounded.fresh_spans_of view list)) fresh))

-- ---- height maps, and the light on them

pub height_points_are_bounded : HeightPointsAreBounded
height_points_are_bounded = height-points layers.tested box_points

pub shade_points_are_bounded : ShadePointsAreBounded
shade_points_are_bounded = shade-points layers

-- ---- meshes

pub mesh_points_are_bounded : MeshPointsAreBounded
mesh_points_are_bounded = mesh-points layers

pub boxes_after_add_up : BoxesAfterAddUp
boxes_after_add_up = boxes_after_add_up_is layers

pub meshes_after_add_up : MeshesAfterAddUp
meshes_after_add_up = meshes_after_add_up_is layers

-- ---- contours

no_less : (z : ℤ) → z ≤ℤ z
no_less z = grind (arith, ints)

-- a view that is laid flat is a view
flat-window : FlatViewsAreViews
flat-window view is = record {
  x = is.x;
  y = is.y;
  z_ends = record { low_raw = is.z; high_raw = is.z; ordered = no_less view.z };
  z = is.z;
  w = is.w;
  h = is.h;
  d = is.d;
  nx = is.nx;
  ny = is.ny;
  nz = record { some = omega arith; few = omega arith };
}

pub contour_points_are_bounded : ContourPointsAreBounded
contour_points_are_bounded view list window tape =
    contour-points (grids_hold_is layers plane borders-hold) (laid_flat view) list (flat-window view window) tape

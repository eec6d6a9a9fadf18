-- The work of a fresh image is bounded by that of its box of all samples.
use Rattle.std.proofs.Common.{◌≡◌, ◌+◌, ◌-◌, ◌*◌, ◌≤◌, List, length, ap, subst, sym, arith}
use Rattle.std.specs.Prelude.{None, Option, Some}
use Rattle.box_chains.specs.Chains.{Visit}
use Rattle.box_chains.specs.NewBoxes.{HasTheBox, NewBoxesAreCountedOnce as BoxesAreNewOnce}
use Rattle.box_chains.specs.Laws.{PointsAreBounded, RedrawnWorkAddsUp, SpansAreBounded}
use Rattle.box_chains.specs.Redrawn.{frame_before}
use Rattle.box_chains.specs.Sums.{size}
use Rattle.box_chains.specs.Visits.{IsVisit}
use Rattle.live_clauses.specs.Steps.{IsTape}
use Rattle.live_clauses.specs.declared.step.Step.{Step}
use Rattle.view_places.specs.Spans.{root_box_of}
use Rattle.view_places.specs.Window.{Window, IsWindow}
use Rattle.view_places.specs.declared.lattice.Lattice.TheVariants.{Raster}
use Rattle.view_places.specs.Boxes.{IsBox}
use Rattle.quad_descent.specs.Laws.{FrameWorkIsBounded, FreshPointsAreBounded, FreshSpansAreBounded, NewBoxesAreCountedOnce}
use Rattle.quad_descent.specs.Raster.{fresh_points, fresh_spans, raster, raster_root}

whole-visit : (view : Window) (list : List Step) → IsWindow view → IsTape list → IsVisit (raster view) (raster_root view list)
whole-visit view list window tape = record {
  window = window;
  box = record { x = window.w.some; y = window.h.some; z = omega arith };
  within = record { x = omega arith; y = omega arith; z = omega arith };
  tape = tape;
}

whole-size : (view : Window) → size (root_box_of view Raster) ≡ view.w * view.h
whole-size view = grind arith

pub points_bounded : PointsAreBounded → FreshPointsAreBounded
points_bounded law view list window tape =
    subst (λ n. fresh_points view list ≤ n * length list) (whole-size view) (law (raster view) (raster_root view list) (omega arith) (whole-visit view list window tape))

pub spans_bounded : SpansAreBounded → FreshSpansAreBounded
spans_bounded law view list window tape =
    let sum : (view.w - 0) + (view.h - 0) + (1 - 0) ≡ view.w + view.h + 1 = omega arith in
    subst (λ m. fresh_spans view list ≤ view.w * view.h * (m * length list)) sum
    (subst (λ n. fresh_spans view list ≤ n * (((view.w - 0) + (view.h - 0) + (1 - 0)) * length list)) (whole-size view) (law (raster view) (raster_root view list) (omega arith) (whole-visit view list window tape)))

whole-box : (view : Window) → IsWindow view → IsBox (root_box_of view Raster)
whole-box view window = record { x = window.w.some; y = window.h.some; z = omega arith }

pub frame_work_is : RedrawnWorkAddsUp → FrameWorkIsBounded
frame_work_is laws = record {
  most_points = λ view before list. laws.most_points (raster view) (frame_before (raster view) before) (raster_root view list);
  most_spans = λ view before list. laws.most_spans (raster view) (frame_before (raster view) before) (raster_root view list);
  fresh_points_of = λ view list. laws.fresh_points (raster view) (raster_root view list);
  fresh_spans_of = λ view list. laws.fresh_spans (raster view) (raster_root view list);
  same_points = λ view list window. laws.old_points (raster view) (raster_root view list) (omega arith) (whole-box view window);
  same_spans = λ view list window. laws.old_spans (raster view) (raster_root view list) (omega arith) (whole-box view window);
}

-- the image before has the same samples
same-box : (view : Window) (before : Option (List Step)) (list : List Step) → HasTheBox (frame_before (raster view) before) (raster_root view list)
same-box view None list old is = let none : None ≡ Some old = is in (cc)
same-box view (Some other) list old is =
    let same : Some (raster_root view other) ≡ Some old = is in
    let root : raster_root view other ≡ old = (cc) in
    sym (ap (λ (v : Visit). v.box) root)

pub new_boxes_are : BoxesAreNewOnce → NewBoxesAreCountedOnce
new_boxes_are law view before list window =
    law (raster view) (frame_before (raster view) before) (raster_root view list) (omega arith) (whole-box view window) (same-box view before list)

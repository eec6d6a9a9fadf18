-- The work of a height map is bounded by that of its box of all samples.
use Rattle.std.proofs.Common.{◌≡◌, ◌+◌, ◌-◌, ◌*◌, ◌≤◌, true, List, length, refl, subst, arith}
use Rattle.box_chains.specs.Counts.{points_in}
use Rattle.box_chains.specs.Laws.{PointsAreBounded, SpansAreBounded, TestedWorkAddsUp}
use Rattle.box_chains.specs.Sums.{size}
use Rattle.box_chains.specs.Visits.{IsVisit}
use Rattle.live_clauses.specs.Steps.{IsTape}
use Rattle.live_clauses.specs.declared.step.Step.{Step}
use Rattle.view_places.specs.Spans.{root_box_of}
use Rattle.view_places.specs.Window.{Window, IsWindow}
use Rattle.view_places.specs.declared.lattice.Lattice.TheVariants.{Height}
use Rattle.height_map.specs.Bound.{height_spans, is_near, layered, layers_root}
use Rattle.height_map.specs.Laws.{HeightPointsAreBounded, HeightSpansAreBounded}

pub whole-visit : (view : Window) (list : List Step) → IsWindow view → IsTape list → IsVisit (layered view) (layers_root view list)
whole-visit view list window tape = record {
  window = window;
  box = record { x = window.w.some; y = window.h.some; z = window.d.some };
  within = record { x = omega arith; y = omega arith; z = omega arith };
  tape = tape;
}

whole-size : (view : Window) → size (root_box_of view Height) ≡ view.w * view.h * view.d
whole-size view = grind arith

pub points_bounded : TestedWorkAddsUp → PointsAreBounded → HeightPointsAreBounded
points_bounded tested law view list window tape =
    let all : points_in (layered view) (layers_root view list) ≤ view.w * view.h * view.d * length list =
    subst (λ n. points_in (layered view) (layers_root view list) ≤ n * length list) (whole-size view) (law (layered view) (layers_root view list) (omega arith) (whole-visit view list window tape)) in
    omega (
      arith,
      all,
      tested.points_more (is_near view list) (λ s. true) (layered view) (layers_root view list) (λ s lies e. refl),
      tested.points_all (layered view) (layers_root view list),
    )

pub spans_bounded : SpansAreBounded → HeightSpansAreBounded
spans_bounded law view list window tape =
    let sum : (view.w - 0) + (view.h - 0) + (view.d - 0) ≡ view.w + view.h + view.d = omega arith in
    subst (λ m. height_spans view list ≤ view.w * view.h * view.d * (m * length list)) sum
    (subst (λ n. height_spans view list ≤ n * (((view.w - 0) + (view.h - 0) + (view.d - 0)) * length list)) (whole-size view) (law (layered view) (layers_root view list) (omega arith) (whole-visit view list window tape)))

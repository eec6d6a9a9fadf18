-- The contours of grids have paths.
use Rattle.std.proofs.Common.{◌≡◌, ℕ, suc, ◌+◌, ◌<◌, ◌≤◌, true, List, [], ◌∷◌, ◌++◌, length, map, sym, subst, length-append, arith}
use Rattle.std.specs.Prelude.{All, flat_map, get_or, nat_le}
use Rattle.std.specs.List.{concat, range_with_len}
use Rattle.std.proofs.lemmas.Bool.{and_parts, leb-true}
use Rattle.std.proofs.lemmas.List.{length-map}
use Rattle.std.proofs.lemmas.List.Elements.{All-cons, All-filter, All-map, All-nil, filter_passes}
use Rattle.kuhn_cells.specs.Corners.{along_x, along_y}
use Rattle.plane_loops.specs.Contours.{AreJoined, AreLoops, StartsLowest, ends_from}
use Rattle.plane_loops.specs.Planes.{PlaneEdge, PlaneGrid, PlanePoint, directions, edge_from, edges, is_inside_at, is_mixed, is_point, mixed_edges, over_square, point, upper, value_at, lower, vertex_on}
use Rattle.plane_loops.proofs.Closing.{loops_with}
use Rattle.view_places.specs.Window.{Window}
use Rattle.path_writer.specs.Laws.{ContoursHavePaths, HasItsPaths}
use Rattle.path_writer.specs.Written.{ArePiecesTo, IsInPlane}
use Rattle.fixed_ops.proofs.Lists.{all_flat}
use Rattle.mesh_laws.proofs.Lattice.{way_is_share}

-- ---- the loops are pieces of the order

starts_some : (loop : List ℕ) → StartsLowest loop → 1 ≤ length loop
starts_some [] starts = absurd starts
starts_some (v ∷ vs) starts = omega arith

ends_are : (n : ℕ) (loops : List (List ℕ)) → All StartsLowest loops → ArePiecesTo n (n + length (concat loops)) (ends_from n loops)
ends_are n [] lowest = omega arith
ends_are n (loop ∷ loops) lowest =
    let some = starts_some loop (lowest 0 loop (omega arith)) in
    let all : (n + length loop) + length (concat loops) ≡ n + length (loop ++ concat loops) = omega (arith, length-append loop (concat loops)) in (
      omega (arith, some),
      subst (λ last. ArePiecesTo (n + length loop) last (ends_from (n + length loop) loops)) all
          (ends_are (n + length loop) loops (λ k d less. lowest (suc k) d (omega (arith, less)))),
    )

-- ---- the vertices lie in the plane

abbrev pub HasSteps : PlaneEdge → Type 0
HasSteps e = (1 ≤ e.dir) × (e.dir ≤ 3)

steps_at : (p : PlanePoint) → All HasSteps (map (edge_from p) directions)
steps_at p =
    All-cons HasSteps (edge_from p 1) (edge_from p 2 ∷ edge_from p 3 ∷ []) (omega arith, omega arith)
    (All-cons HasSteps (edge_from p 2) (edge_from p 3 ∷ []) (omega arith, omega arith)
    (All-cons HasSteps (edge_from p 3) [] (omega arith, omega arith) (All-nil HasSteps)))

pub steps_over : (n : ℕ) → All HasSteps (over_square n (λ p. map (edge_from p) directions))
steps_over n =
    all_flat HasSteps (λ y. flat_map (λ x. map (edge_from (point x y)) directions) (range_with_len 0 n))
    (λ y. all_flat HasSteps (λ x. map (edge_from (point x y)) directions) (λ x. steps_at (point x y)) (range_with_len 0 n))
    (range_with_len 0 n)

in_plane : (w : Window) (g : PlaneGrid) (e : PlaneEdge) → g.n ≡ w.nx → g.n ≡ w.ny → HasSteps e → is_point g (upper e) ≡ true → IsInPlane w (vertex_on g e)
in_plane w g e across along steps point =
    let ends = and_parts (nat_le (e.x + along_x e.dir) g.n) (nat_le (e.y + along_y e.dir) g.n) point in
    let way = way_is_share (value_at g (lower e)) (value_at g (upper e)) in
    record {
      some_steps = steps.0;
      few_steps = steps.1;
      x = subst (λ n. e.x + along_x e.dir ≤ n) across (leb-true (e.x + along_x e.dir) g.n ends.0);
      y = subst (λ n. e.y + along_y e.dir ≤ n) along (leb-true (e.y + along_y e.dir) g.n ends.1);
      some = way.some;
      few = way.few;
    }

placed : (w : Window) (g : PlaneGrid) → g.n ≡ w.nx → g.n ≡ w.ny → All (λ e. IsInPlane w (vertex_on g e)) (mixed_edges g)
unfolding mixed_edges
placed w g across along =
    let every = over_square (g.n + 1) (λ p. map (edge_from p) directions) in
    let steps = All-filter (λ e. is_point g (upper e)) HasSteps every (steps_over (g.n + 1)) in
    let points = filter_passes (λ e. is_point g (upper e)) every in
    All-filter (is_mixed (is_inside_at g)) (λ e. IsInPlane w (vertex_on g e)) (edges g)
    (λ k d less. in_plane w g (get_or (edges g) k d) across along (steps k d less) (points k d less))

-- ---- so they have paths

pub contours_have_paths : ContoursHavePaths
contours_have_paths w g c across along contour =
    let loops = contour.loops in
    let follow = contour.follow in
    subst (HasItsPaths w g) (sym contour.is) (record {
      written = record {
        placed = All-map (IsInPlane w) (vertex_on g) (mixed_edges g) (placed w g across along);
        known = λ k d less. subst (λ n. get_or (concat loops) k d < n) (sym (length-map (mixed_edges g) (vertex_on g))) (follow.within k d less);
        pieces = subst (λ last. ArePiecesTo 0 last (ends_from 0 loops)) (omega arith) (ends_are 0 loops follow.lowest);
      };
      follow = subst (AreLoops (length (mixed_edges g)) (AreJoined g)) (sym (loops_with g loops)) follow;
    })

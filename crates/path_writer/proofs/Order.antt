-- The edges that hold a vertex differ.
use Rattle.std.proofs.Common.{◌≡◌, ◌≢◌, ℕ, ◌+◌, ◌<◌, List, [], ◌∷◌, map, refl, ap, arith}
use Rattle.std.specs.Prelude.{All, AllPairs, flat_map}
use Rattle.std.specs.List.{range_with_len}
use Rattle.std.proofs.lemmas.List.Elements.{All-cons, All-nil}
use Rattle.std.proofs.lemmas.List.Kept.{AllPairs-cons, AllPairs-filter}
use Rattle.plane_loops.specs.Planes.{PlaneEdge, PlaneGrid, PlanePoint, directions, edge_from, edges, is_inside_at, is_mixed, is_point, mixed_edges, over_square, point, upper}
use Rattle.mesh_laws.proofs.Lists.{Differ}
use Rattle.mesh_laws.proofs.Single.{apart}
use Rattle.fixed_ops.proofs.Lists.{all_flat, in_order}

from : PlanePoint → List PlaneEdge
from p = map (edge_from p) directions

other_direction : (p : PlanePoint) (a b : ℕ) → a < b → edge_from p a ≢ edge_from p b
other_direction p a b less same = let equal = ap (λ (e : PlaneEdge). e.dir) same in omega (arith, less, equal)

from_differ : (p : PlanePoint) → AllPairs Differ (from p)
unfolding from
from_differ p =
    AllPairs-cons Differ (edge_from p 1) (edge_from p 2 ∷ edge_from p 3 ∷ [])
    (All-cons (Differ (edge_from p 1)) (edge_from p 2) (edge_from p 3 ∷ []) (other_direction p 1 2 (omega arith))
    (All-cons (Differ (edge_from p 1)) (edge_from p 3) [] (other_direction p 1 3 (omega arith)) (All-nil (Differ (edge_from p 1)))))
    (AllPairs-cons Differ (edge_from p 2) (edge_from p 3 ∷ [])
    (All-cons (Differ (edge_from p 2)) (edge_from p 3) [] (other_direction p 2 3 (omega arith)) (All-nil (Differ (edge_from p 2))))
    (AllPairs-cons Differ (edge_from p 3) [] (All-nil (Differ (edge_from p 3))) (λ i j d less within. absurd (omega (arith, within)))))

-- what holds of each edge from a point
each_from : (P : PlaneEdge → Type 0) (p : PlanePoint) → ((dir : ℕ) → P (edge_from p dir)) → All P (from p)
unfolding from
each_from P p each =
    All-cons P (edge_from p 1) (edge_from p 2 ∷ edge_from p 3 ∷ []) (each 1)
    (All-cons P (edge_from p 2) (edge_from p 3 ∷ []) (each 2) (All-cons P (edge_from p 3) [] (each 3) (All-nil P)))

row : ℕ → ℕ → List PlaneEdge
row n y = flat_map (λ x. from (point x y)) (range_with_len 0 n)

row_told : (n y : ℕ) → All (λ e. e.y ≡ y) (row n y)
unfolding row
row_told n y = all_flat (λ (e : PlaneEdge). e.y ≡ y) (λ x. from (point x y)) (λ x. each_from (λ e. e.y ≡ y) (point x y) (λ dir. refl)) (range_with_len 0 n)

row_differ : (n y : ℕ) → AllPairs Differ (row n y)
unfolding row
row_differ n y =
    in_order Differ (λ x. from (point x y)) (λ x e. e.x ≡ x) (λ x. from_differ (point x y))
    (λ x. each_from (λ e. e.x ≡ x) (point x y) (λ dir. refl)) (apart (λ e. e.x)) 0 n

square_differ : (n : ℕ) → AllPairs Differ (over_square n (λ p. map (edge_from p) directions))
unfolding row from
square_differ n = in_order Differ (row n) (λ y e. e.y ≡ y) (row_differ n) (row_told n) (apart (λ e. e.y)) 0 n

pub edges_differ : (g : PlaneGrid) → AllPairs (λ e f. e ≢ f) (mixed_edges g)
unfolding mixed_edges
edges_differ g =
    AllPairs-filter Differ (is_mixed (is_inside_at g)) (edges g)
    (AllPairs-filter Differ (λ e. is_point g (upper e)) (over_square (g.n + 1) (λ p. map (edge_from p) directions)) (square_differ (g.n + 1)))

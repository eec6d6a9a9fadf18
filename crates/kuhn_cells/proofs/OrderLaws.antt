-- The vertices stand in the order of their keys.
use Rattle.std.proofs.Common.{◌≡◌, ℕ, ◌+◌, List, refl, arith, inl, inr}
use Rattle.std.specs.Prelude.{map, flat_map, All, AllPairs}
use Rattle.std.specs.List.{range_with_len}
use Rattle.std.proofs.lemmas.List.Elements.{All-map}
use Rattle.std.proofs.lemmas.List.FromFn.{get_or-map-range_with_len}
use Rattle.std.proofs.lemmas.List.Kept.{AllPairs-filter}
use Rattle.kuhn_cells.specs.declared.edge_key.EdgeKey.{EdgeKey}
use Rattle.kuhn_cells.specs.Grids.{Grid, edges, is_inside_at, is_mixed, is_point, upper, vertices}
use Rattle.kuhn_cells.specs.Laws.{IsBefore, VerticesRise}
use Rattle.kuhn_cells.specs.Triangles.{GridPoint, edge_from, point}
use Rattle.kuhn_cells.proofs.VertexLaws.{all_edges}
use Rattle.fixed_ops.proofs.Lists.{all_flat, in_order}

-- ---- the edges of a grid

abbrev from : GridPoint → List EdgeKey
from p = map (edge_from p) (range_with_len 1 7)

directions_rise : (p : GridPoint) → AllPairs IsBefore (from p)
directions_rise p i j d less within =
    rw (
      get_or-map-range_with_len (edge_from p) 1 7 i (1 + i) d (omega (arith, less, within)) refl,
      get_or-map-range_with_len (edge_from p) 1 7 j (1 + j) d (omega (arith, within)) refl,
    )
    (inr (refl, inr (refl, inr (refl, omega (arith, less)))))

abbrev row : ℕ → ℕ → ℕ → List EdgeKey
row nx z y = flat_map (λ x. from (point x y z)) (range_with_len 0 nx)

row_rises : (nx z y : ℕ) → AllPairs IsBefore (row nx z y)
row_rises nx z y =
    in_order IsBefore (λ x. from (point x y z)) (λ x e. (e.x ≡ x) × (e.y ≡ y) × (e.z ≡ z))
    (λ x. directions_rise (point x y z)) (λ x. All-map (λ e. (e.x ≡ x) × (e.y ≡ y) × (e.z ≡ z))
    (edge_from (point x y z)) (range_with_len 1 7) (λ k d within. (refl, refl, refl)))
    (λ i j e f less p q. inr (
      omega (arith, p.2, q.2),
      inr (omega (arith, p.1, q.1), inl (omega (arith, p.0, q.0, less))),
    )) 0 nx

row_has : (nx z y : ℕ) → All (λ e. (e.y ≡ y) × (e.z ≡ z)) (row nx z y)
row_has nx z y =
    all_flat (λ e. (e.y ≡ y) × (e.z ≡ z)) (λ x. from (point x y z))
    (λ x. All-map (λ e. (e.y ≡ y) × (e.z ≡ z)) (edge_from (point x y z)) (range_with_len 1 7)
    (λ k d within. (refl, refl))) (range_with_len 0 nx)

abbrev layer : ℕ → ℕ → ℕ → List EdgeKey
layer nx ny z = flat_map (row nx z) (range_with_len 0 ny)

layer_rises : (nx ny z : ℕ) → AllPairs IsBefore (layer nx ny z)
layer_rises nx ny z =
    in_order IsBefore (row nx z) (λ y e. (e.y ≡ y) × (e.z ≡ z)) (row_rises nx z) (row_has nx z)
    (λ i j e f less p q. inr (
      omega (arith, p.1, q.1),
      inl (omega (arith, p.0, q.0, less)),
    )) 0 ny

layer_has : (nx ny z : ℕ) → All (λ e. e.z ≡ z) (layer nx ny z)
layer_has nx ny z = all_flat (λ e. e.z ≡ z) (row nx z) (λ y k d within.
    (row_has nx z y k d within).1) (range_with_len 0 ny)

all_edges_rise : (g : Grid) → AllPairs IsBefore (all_edges g)
all_edges_rise g =
    in_order IsBefore (layer (g.x + 1) (g.y + 1)) (λ z e. e.z ≡ z) (layer_rises (g.x + 1) (g.y + 1))
    (layer_has (g.x + 1) (g.y + 1)) (λ i j e f less p q. inl (omega (arith, p, q, less))) 0
    (g.z + 1)

pub vertices_rise : VerticesRise
unfolding vertices
vertices_rise g =
    AllPairs-filter IsBefore (is_mixed (is_inside_at g)) (edges g)
    (AllPairs-filter IsBefore (λ e. is_point g (upper e)) (all_edges g) (all_edges_rise g))

-- The vertices are all edges with exactly one inside end.
use Rattle.std.proofs.Common.{◌≡◌, ℕ, ◌+◌, ◌<◌, true, List, arith}
use Rattle.std.specs.Prelude.{map, All, Contains}
use Rattle.std.specs.List.{range_with_len}
use Rattle.std.proofs.lemmas.Bool.{and_parts, leb-true}
use Rattle.std.proofs.lemmas.List.Elements.{All-contains, All-filter, All-map, filter_passes}
use Rattle.std.proofs.lemmas.List.FromFn.{get_or-range_with_len}
use Rattle.kuhn_cells.specs.declared.edge_key.EdgeKey.{EdgeKey}
use Rattle.kuhn_cells.specs.Corners.{along_x, along_y, along_z}
use Rattle.kuhn_cells.specs.Grids.{Grid, edges, is_inside_at, is_mixed, is_point, lower, over_block, upper, vertices}
use Rattle.kuhn_cells.specs.Laws.{IsDirection, IsVertex, VerticesAreMixedEdges}
use Rattle.kuhn_cells.specs.Triangles.{GridPoint, edge_from, point}
use Rattle.fixed_ops.proofs.Lists.{all_flat, in_filter, in_flat, in_map, in_range}

-- ---- all elements of a block

pub all_block : {A : Type 0} (P : A → Type 0) (nx ny nz : ℕ) (at : GridPoint → List A)
    → ((p : GridPoint) → All P (at p)) → All P (over_block nx ny nz at)
all_block P nx ny nz at each =
    all_flat P _ (λ z. all_flat P _ (λ y. all_flat P _ (λ x. each (point x y z))
    (range_with_len 0 nx)) (range_with_len 0 ny)) (range_with_len 0 nz)

-- ---- an element of a block

pub in_block : {A : Type 0} (nx ny nz : ℕ) (at : GridPoint → List A) (p : GridPoint) (e : A)
    → p.x < nx → p.y < ny → p.z < nz → Contains (at p) e → Contains (over_block nx ny nz at) e
in_block nx ny nz at p e x y z h =
    in_flat _ (range_with_len 0 nz) p.z e (in_range 0 nz p.z (omega arith) (omega (arith, z)))
    (in_flat _ (range_with_len 0 ny) p.y e (in_range 0 ny p.y (omega arith) (omega (arith, y)))
    (in_flat _ (range_with_len 0 nx) p.x e (in_range 0 nx p.x (omega arith) (omega (arith, x))) h))

-- ---- the edges and the vertices of a grid

are_directions : (p : GridPoint) → All (λ e. IsDirection e.dir)
    (map (edge_from p) (range_with_len 1 7))
are_directions p =
    All-map (λ e. IsDirection e.dir) (edge_from p) (range_with_len 1 7)
    (λ k d h. rw (get_or-range_with_len 1 7 k d h) (record {
      some = omega arith;
      within = omega (arith, h);
    }))

abbrev pub all_edges : Grid → List EdgeKey
all_edges g = over_block (g.x + 1) (g.y + 1) (g.z + 1) (λ p. map (edge_from p) (range_with_len 1 7))

pub is_vertex : (g : Grid) (e : EdgeKey) → Contains (vertices g) e → IsVertex g e
unfolding vertices
is_vertex g e h =
    let within = λ (e : EdgeKey). is_point g (upper e) in
    let mixed = is_mixed (is_inside_at g) in
    let directions = all_block (λ e. IsDirection e.dir) (g.x + 1) (g.y + 1) (g.z + 1)
    (λ p. map (edge_from p) (range_with_len 1 7)) are_directions in
    record {
      direction = All-contains (λ e. IsDirection e.dir) (vertices g) e
          (All-filter mixed (λ e. IsDirection e.dir) (edges g)
          (All-filter within (λ e. IsDirection e.dir) (all_edges g) directions)) h;
      within = All-contains (λ e. within e ≡ true) (vertices g) e
          (All-filter mixed (λ e. within e ≡ true) (edges g)
          (filter_passes within (all_edges g))) h;
      mixed = All-contains (λ e. mixed e ≡ true) (vertices g) e (filter_passes mixed (edges g)) h;
    }

pub in_vertices : (g : Grid) (e : EdgeKey) → IsVertex g e → Contains (vertices g) e
unfolding vertices
in_vertices g e v =
    let within = λ (e : EdgeKey). is_point g (upper e) in
    let x = and_parts _ _ v.within in
    let yz = and_parts _ _ x.1 in
    let fx = leb-true (e.x + along_x e.dir) g.x x.0 in
    let fy = leb-true (e.y + along_y e.dir) g.y yz.0 in
    let fz = leb-true (e.z + along_z e.dir) g.z yz.1 in
    let here = in_map (edge_from (lower e)) (range_with_len 1 7) e.dir
    (in_range 1 7 e.dir v.direction.some (let few = v.direction.within in omega
    (arith, few))) in
    in_filter (is_mixed (is_inside_at g)) (edges g) e (in_filter within (all_edges g) e
    (in_block (g.x + 1) (g.y + 1) (g.z + 1) (λ p. map (edge_from p) (range_with_len 1 7))
    (lower e) e (omega (arith, fx)) (omega (arith, fy))
    (omega (arith, fz)) here) v.within) v.mixed

pub vertices_are_mixed_edges : VerticesAreMixedEdges
vertices_are_mixed_edges g e = (is_vertex g e, in_vertices g e)

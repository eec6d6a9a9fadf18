-- The least work of a mesh is no more than its most.
use Rattle.std.proofs.Common.{◌≡◌, ℕ, ◌-◌, ◌≤◌, Bool, true, false, List, [], ◌∷◌, ◌++◌, length, max, if◌then◌else◌, arith}
use Rattle.std.specs.Prelude.{◌&&◌, Option, not}
use Rattle.std.specs.List.{flat_map, range_with_len, sum_by}
use Rattle.std.proofs.lemmas.List.Sums.{sum_by-le-sum_by}
use Rattle.box_chains.specs.Chains.{is_long}
use Rattle.box_chains.specs.Counts.{first_lengths, is_first}
use Rattle.box_chains.specs.Redrawn.{is_old, new_lengths}
use Rattle.box_chains.specs.Sums.{Sample, sum_in}
use Rattle.kuhn_cells.specs.Grids.{over_block}
use Rattle.kuhn_cells.specs.Triangles.{GridPoint, point}
use Rattle.live_clauses.specs.declared.step.Step.{Step}
use Rattle.oct_descent.specs.After.{cell_spans_after, is_old_cell, least_at_corners, least_lengths_at, long_spans_after, mesh_before, mesh_least_after, mesh_long_spans_after, mesh_points_after, mesh_spans_after, new_length_in, new_lengths_at, new_long_lengths, ways_before}
use Rattle.oct_descent.specs.Bound.{has_point, least, lengths_at, long_lengths, long_spans_in, mesh_least, mesh_long_spans, mesh_points, mesh_spans, points_of_grid, sample_of, cell_spans_in, working_lengths}
use Rattle.box_chains.specs.Sums.{maximum}
use Rattle.oct_descent.specs.Ways.{gridded, is_working, way, way_end, grid_root}
use Rattle.view_places.specs.Boxes.{Indices}
use Rattle.view_places.specs.Window.{Window, size_of}

-- sums over a box of what is nowhere more
pub sum-less : (b : Indices) (f g : Sample → ℕ) → ((s : Sample) → f s ≤ g s) → sum_in b f ≤ sum_in b g
sum-less b f g less =
    sum_by-le-sum_by (λ k. sum_by (λ j. sum_by (λ i. f (record { i = i; j = j; k = k })) (range_with_len b.x0 (b.x1 - b.x0))) (range_with_len b.y0 (b.y1 - b.y0)))
    (λ k. sum_by (λ j. sum_by (λ i. g (record { i = i; j = j; k = k })) (range_with_len b.x0 (b.x1 - b.x0))) (range_with_len b.y0 (b.y1 - b.y0)))
    (range_with_len b.z0 (b.z1 - b.z0))
    (λ k. sum_by-le-sum_by (λ j. sum_by (λ i. f (record { i = i; j = j; k = k })) (range_with_len b.x0 (b.x1 - b.x0)))
    (λ j. sum_by (λ i. g (record { i = i; j = j; k = k })) (range_with_len b.x0 (b.x1 - b.x0)))
    (range_with_len b.y0 (b.y1 - b.y0))
    (λ j. sum_by-le-sum_by (λ i. f (record { i = i; j = j; k = k })) (λ i. g (record { i = i; j = j; k = k })) (range_with_len b.x0 (b.x1 - b.x0))
    (λ i. less (record { i = i; j = j; k = k }))))

-- the least of some numbers is no more than the greatest
pub least-greatest : (ns : List ℕ) → least ns ≤ maximum ns
least-greatest [] = omega arith
least-greatest (n ∷ []) = omega arith
least-greatest (n ∷ m ∷ ns) = omega arith

-- the greatest of two lists
greatest-append : (ms ns : List ℕ) → maximum (ms ++ ns) ≡ max (maximum ms) (maximum ns)
greatest-append [] ns = omega arith
greatest-append (m ∷ ms) ns = omega (arith, greatest-append ms ns)

-- where each item has no more, neither has the whole
greatest-flat : {X : Type 0} (f g : X → List ℕ) → ((x : X) → maximum (f x) ≤ maximum (g x)) → (xs : List X) → maximum (flat_map f xs) ≤ maximum (flat_map g xs)
greatest-flat f g less [] = omega arith
greatest-flat f g less (x ∷ xs) =
    omega (arith, less x, greatest-flat f g less xs, greatest-append (f x) (flat_map f xs), greatest-append (g x) (flat_map g xs))

pub greatest-block : (nx ny nz : ℕ) (f g : GridPoint → List ℕ) → ((p : GridPoint) → maximum (f p) ≤ maximum (g p))
    → maximum (over_block nx ny nz f) ≤ maximum (over_block nx ny nz g)
greatest-block nx ny nz f g less =
    greatest-flat (λ z. flat_map (λ y. flat_map (λ x. f (point x y z)) (range_with_len 0 nx)) (range_with_len 0 ny))
    (λ z. flat_map (λ y. flat_map (λ x. g (point x y z)) (range_with_len 0 nx)) (range_with_len 0 ny))
    (λ z. greatest-flat (λ y. flat_map (λ x. f (point x y z)) (range_with_len 0 nx)) (λ y. flat_map (λ x. g (point x y z)) (range_with_len 0 nx))
    (λ y. greatest-flat (λ x. f (point x y z)) (λ x. g (point x y z)) (λ x. less (point x y z)) (range_with_len 0 nx)) (range_with_len 0 ny))
    (range_with_len 0 nz)

-- a working cell that has a point as a corner is a cell that has it
pub cell-less : (has works : Bool) (n : ℕ)
    → maximum (if has && works then n ∷ [] else []) ≤ maximum (if has then (if works then n else 0) ∷ [] else [])
cell-less true true n = omega arith
cell-less true false n = omega arith
cell-less false works n = omega arith

pub least-most : (view : Window) (list : List Step) → mesh_least view list ≤ mesh_points view list
unfolding mesh_least mesh_points
least-most view list =
    sum-less (points_of_grid (size_of view)) (λ s. least (working_lengths view list (point s.i s.j s.k))) (λ s. maximum (lengths_at view list (point s.i s.j s.k)))
    (λ s. at (point s.i s.j s.k))
  where
    at : (p : GridPoint) → least (working_lengths view list p) ≤ maximum (lengths_at view list p)
    at p =
        let n = size_of view in
        let d = gridded view in
        let v = grid_root view list in
        let few = greatest-block n.x n.y n.z
        (λ cell. if has_point (d.cell (sample_of cell)) p && is_working d v (sample_of cell) then length (way_end d v (sample_of cell)).list ∷ [] else [])
        (λ cell. if has_point (d.cell (sample_of cell)) p then (if is_working d v (sample_of cell) then length (way_end d v (sample_of cell)).list else 0) ∷ [] else [])
        (λ cell. cell-less (has_point (d.cell (sample_of cell)) p) (is_working d v (sample_of cell)) (length (way_end d v (sample_of cell)).list)) in
        omega (arith, least-greatest (working_lengths view list p), few)

-- a box of more than one cell is a box
pub long-less : (long first : Bool) (n : ℕ) → (if long && first then n else 0) ≤ (if first then n else 0)
long-less true first n = omega arith
long-less false true n = omega arith
long-less false false n = omega arith

-- the steps traced over the boxes of more than one cell are some of those traced over all
pub long-all : (view : Window) (list : List Step) → mesh_long_spans view list ≤ mesh_spans view list
unfolding long_spans_in cell_spans_in
long-all view list =
    let d = gridded view in
    let v = grid_root view list in
    sum-less v.box (λ s. long_lengths d s (way d v s)) (λ s. first_lengths s (way d v s))
    (λ s. sum_by-le-sum_by (λ w. if is_long d.boxes.leaf w.box && is_first w.box s then length w.list else 0)
    (λ w. if is_first w.box s then length w.list else 0) (way d v s)
    (λ w. long-less (is_long d.boxes.leaf w.box) (is_first w.box s) (length w.list)))

-- a new box of more than one cell is a new box, so after another mesh, too, the least is no more
new-long-less : (old long first : Bool) (n : ℕ) → (if old then 0 else if long && first then n else 0) ≤ (if old then 0 else if first then n else 0)
new-long-less true long first n = omega arith
new-long-less false long first n = long-less long first n

pub after-long : (view : Window) (before : Option (List Step)) (list : List Step) → mesh_long_spans_after view before list ≤ mesh_spans_after view before list
unfolding long_spans_after cell_spans_after
after-long view before list =
    let d = gridded view in
    let v = grid_root view list in
    let old = ways_before d (mesh_before view before) in
    sum-less v.box (λ s. new_long_lengths d (old s) s (way d v s)) (λ s. new_lengths (old s) s (way d v s))
    (λ s. sum_by-le-sum_by (λ w. if is_old (old s) w then 0 else if is_long d.boxes.leaf w.box && is_first w.box s then length w.list else 0)
    (λ w. if is_old (old s) w then 0 else if is_first w.box s then length w.list else 0) (way d v s)
    (λ w. new-long-less (is_old (old s) w) (is_long d.boxes.leaf w.box) (is_first w.box s) (length w.list)))

-- a new working cell that has a point as a corner is a cell that has it, and an old cell takes nothing
new-cell-less : (has old works : Bool) (n : ℕ)
    → maximum (if has then (if old then 0 ∷ [] else if works then n ∷ [] else []) else [])
    ≤ maximum (if has then (if works && not old then n else 0) ∷ [] else [])
new-cell-less false old works n = omega arith
new-cell-less true true works n = omega arith
new-cell-less true false true n = omega arith
new-cell-less true false false n = omega arith

-- so what the points take at least is no more than what they take at most
pub after-least : (view : Window) (before : Option (List Step)) (list : List Step) → mesh_least_after view before list ≤ mesh_points_after view before list
unfolding mesh_least_after mesh_points_after
after-least view before list =
    sum-less (points_of_grid (size_of view)) (λ s. least (least_lengths_at view before list (point s.i s.j s.k))) (λ s. maximum (new_lengths_at view before list (point s.i s.j s.k)))
    (λ s. at (point s.i s.j s.k))
  where
    at : (p : GridPoint) → least (least_lengths_at view before list p) ≤ maximum (new_lengths_at view before list p)
    at p =
        let n = size_of view in
        let d = gridded view in
        let v = grid_root view list in
        let was = mesh_before view before in
        let few = greatest-block n.x n.y n.z
        (λ cell. if has_point (d.cell (sample_of cell)) p then least_at_corners d was v (sample_of cell) else [])
        (λ cell. if has_point (d.cell (sample_of cell)) p then new_length_in d was v cell ∷ [] else [])
        (λ cell. new-cell-less (has_point (d.cell (sample_of cell)) p) (is_old_cell d was v (sample_of cell)) (is_working d v (sample_of cell)) (length (way_end d v (sample_of cell)).list)) in
        omega (arith, least-greatest (least_lengths_at view before list p), few)

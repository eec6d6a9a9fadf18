-- The work of the cells of a grid after another mesh.
use Rattle.std.proofs.Common.{◌≡◌, ℕ, ◌≤◌, Bool, true, false, cond, List, [], ◌∷◌, length, refl, ap, subst, ◌∙◌, arith}
use Rattle.std.specs.Prelude.{Option, Some, None, ◌&&◌, max, not}
use Rattle.std.proofs.lemmas.Bool.{false≢true}
use Rattle.box_chains.specs.Chains.{Visit, visit}
use Rattle.box_chains.specs.Laws.{Lawful}
use Rattle.box_chains.specs.Redrawn.{is_old}
use Rattle.box_chains.specs.Sums.{Sample, maximum}
use Rattle.box_chains.specs.Tallied.{CountsAtMost}
use Rattle.fixed_ops.specs.Counts.{Counts}
use Rattle.kuhn_cells.specs.Grids.{over_block}
use Rattle.kuhn_cells.specs.Triangles.{GridPoint, point}
use Rattle.kuhn_cells.specs.declared.grid_size.GridSize.{GridSize}
use Rattle.live_clauses.specs.declared.step.Step.{Step}
use Rattle.view_places.specs.Boxes.{Indices, IsBox}
use Rattle.view_places.specs.Spans.{root_box_of}
use Rattle.view_places.specs.Window.{IsWindow, Window, size_of}
use Rattle.oct_descent.specs.After.{is_new_working, mesh_before, mesh_points_after, mesh_spans_after, new_length_in, new_lengths_at, ways_before}
use Rattle.oct_descent.specs.AfterDesks.{ChargesBoxAfter, IsEnoughAfter}
use Rattle.oct_descent.specs.AfterLaws.{MeshesAfterAddUp}
use Rattle.oct_descent.specs.Bound.{has_point, length_in, lengths_at, mesh_points, points_of_grid, sample_of}
use Rattle.oct_descent.specs.Kinds.{known_of}
use Rattle.oct_descent.specs.Known.{left}
use Rattle.oct_descent.specs.Tables.{PointValues, known_at}
use Rattle.oct_descent.specs.Ways.{CellDescent, cell_box, grid_root, gridded, is_working, way, way_end}
use Rattle.oct_descent.proofs.AfterOld.{end-stands, stands-old}
use Rattle.oct_descent.proofs.AfterPaid.{least-fresh, least-less}
use Rattle.oct_descent.proofs.AfterWork.{long-fresh, spans-fresh, spans-most, spans-old, sum_in-below, sum_in-nothing}
use Rattle.oct_descent.proofs.Blocks.{greatest-block, greatest-block_most}
use Rattle.oct_descent.proofs.Bounds.{covers-has}
use Rattle.oct_descent.proofs.Whole.{left-whole}
use Rattle.view_places.specs.declared.lattice.Lattice.TheVariants as lattices

-- the length of the list that a new working cell of the grid of a mesh receives
abbrev new_length : Window → Option (List Step) → List Step → GridPoint → ℕ
new_length view before list = new_length_in (gridded view) (mesh_before view before) (grid_root view list)

-- and of one that need not be new
abbrev any_length : Window → List Step → GridPoint → ℕ
any_length view list = length_in (gridded view) (grid_root view list)

-- a cell has a point as a corner
abbrev has_corner : GridPoint → GridPoint → Bool
has_corner cell p = has_point (cell_box (sample_of cell)) p

-- a number of each cell that has a point as a corner
abbrev at_corner : (GridPoint → ℕ) → GridPoint → GridPoint → List ℕ
at_corner f p cell = cond (has_corner cell p) (f cell ∷ []) []

-- where the number of each cell is no greater, so is the greatest
greatest-below : (n : GridSize) (f g : GridPoint → ℕ) (p : GridPoint) → ((cell : GridPoint) → f cell ≤ g cell)
    → maximum (over_block n.x n.y n.z (at_corner f p)) ≤ maximum (over_block n.x n.y n.z (at_corner g p))
greatest-below n f g p less =
    greatest-block_most n.x n.y n.z (at_corner f p) (maximum (over_block n.x n.y n.z (at_corner g p)))
    (λ cell x y z. omega (
      arith,
      one cell (has_corner cell p),
      greatest-block n.x n.y n.z
          (at_corner g p) cell x y z,
    ))
  where
    one : (cell : GridPoint) (t : Bool)
        → maximum (cond t (f cell ∷ []) []) ≤ maximum (cond t (g cell ∷ []) [])
    one cell true = omega (arith, less cell)
    one cell false = omega arith

-- ---- what a point takes

new-below_any : (t u : Bool) (n : ℕ) → cond {A = ℕ} (t && u) n 0 ≤ cond t n 0
new-below_any true true n = omega arith
new-below_any true false n = omega arith
new-below_any false u n = omega arith

points-most : (laws : Lawful) (view : Window) (before : Option (List Step)) (list : List Step)
    → mesh_points_after view before list ≤ mesh_points view list
unfolding mesh_points_after mesh_points
points-most laws view before list =
    sum_in-below laws (points_of_grid (size_of view))
    (λ s. maximum (new_lengths_at view before list (point s.i s.j s.k)))
    (λ s. maximum (lengths_at view list (point s.i s.j s.k)))
    (λ s lies. greatest-below (size_of view) (new_length view before list) (any_length view list) (point s.i s.j s.k)
    (λ cell. one (sample_of cell)))
  where
    d : CellDescent
    d = gridded view

    v : Visit
    v = grid_root view list

    one : (s : Sample)
        → cond {A = ℕ} (is_new_working d (mesh_before view before) v s) (length (way_end d v s).list) 0
        ≤ cond (is_working d v s) (length (way_end d v s).list) 0
    one s =
        new-below_any (is_working d v s)
        (not (is_old (ways_before d (mesh_before view before) s) (way_end d v s)))
        (length (way_end d v s).list)

any-below_new : (t : Bool) (n : ℕ) → cond {A = ℕ} t n 0 ≤ cond (t && true) n 0
any-below_new true n = omega arith
any-below_new false n = omega arith

points-fresh : (laws : Lawful) (view : Window) (list : List Step)
    → mesh_points_after view None list ≡ mesh_points view list
unfolding mesh_points_after mesh_points
points-fresh laws view list = omega (arith, points-most laws view None list, least)
  where
    d : CellDescent
    d = gridded view

    v : Visit
    v = grid_root view list

    least : mesh_points view list ≤ mesh_points_after view None list
    least =
        sum_in-below laws (points_of_grid (size_of view))
        (λ s. maximum (lengths_at view list (point s.i s.j s.k)))
        (λ s. maximum (new_lengths_at view None list (point s.i s.j s.k)))
        (λ s lies. greatest-below (size_of view) (any_length view list) (new_length view None list)
        (point s.i s.j s.k)
        (λ cell. any-below_new (is_working d v (sample_of cell))
        (length (way_end d v (sample_of cell)).list)))

-- the box of all cells is a box
pub whole-box : (view : Window) (list : List Step) → IsWindow view → IsBox (grid_root view list).box
whole-box view list window = record { x = window.nx.some; y = window.ny.some; z = window.nz.some }

points-same : (laws : Lawful) (view : Window) (list : List Step) → IsWindow view
    → mesh_points_after view (Some list) list ≡ 0
unfolding mesh_points_after
points-same laws view list window =
    sum_in-nothing laws (points_of_grid (size_of view))
    (λ s. maximum (new_lengths_at view (Some list) list (point s.i s.j s.k)))
    (λ s lies. omega (
      arith,
      greatest-block_most view.nx view.ny view.nz
          (at_corner (new_length view (Some list) list) (point s.i s.j s.k)) 0
          (λ cell x y z. one (has_corner cell (point s.i s.j s.k)) cell),
    ))
  where
    d : CellDescent
    d = gridded view

    v : Visit
    v = grid_root view list

    known : (s : Sample) → is_old (way d v s) (way_end d v s) ≡ true
    known s = stands-old laws (way d v s) (way_end d v s) (end-stands d v s (whole-box view list window))

    idle : (t u : Bool) (n : ℕ) → u ≡ true → cond {A = ℕ} (t && not u) n 0 ≡ 0
    idle true true n e = refl
    idle false true n e = refl
    idle t false n e = absurd (false≢true e)

    one : (t : Bool) (cell : GridPoint) → maximum (cond t (new_length view (Some list) list cell ∷ []) []) ≤ 0
    one false cell = omega arith
    one true cell =
        omega (
          arith,
          idle (is_working d v (sample_of cell))
              (is_old (way d v (sample_of cell)) (way_end d v (sample_of cell)))
              (length (way_end d v (sample_of cell)).list) (known (sample_of cell)),
        )

pub meshes_after_add_up_is : Lawful → MeshesAfterAddUp
meshes_after_add_up_is laws = record {
  same_points = points-same laws;
  same_spans = λ view list window. spans-old laws (gridded view) (grid_root view list);
  fresh_points = points-fresh laws;
  fresh_least = least-fresh;
  fresh_spans = λ view list. spans-fresh (gridded view) (grid_root view list);
  fresh_long = λ view list. long-fresh (gridded view) (grid_root view list);
  most_points = points-most laws;
  most_least = least-less laws;
  most_spans =
      λ view before list. spans-most laws (gridded view) (mesh_before view before) (grid_root view list);
}

-- ---- the box of all cells

-- what a grid's points take is enough for the new working cells of the box of all cells
pub points_suffice_after : (view : Window) (before : Option (List Step)) (list : List Step)
    → IsEnoughAfter (λ p. maximum (new_lengths_at view before list p)) (gridded view)
    (mesh_before view before) (grid_root view list)
points_suffice_after view before list s lies works p covers =
    let cell = point s.i s.j s.k in
    let one = greatest-block view.nx view.ny view.nz
    (at_corner (new_length view before list) p) cell lies.x.1 lies.y.1 lies.z.1 in
    let here : maximum (cond (has_corner cell p) (new_length view before list cell ∷ []) [])
    ≡ max (length (way_end (gridded view) (grid_root view list) s).list) 0 =
    ap (λ t. maximum (cond t (new_length view before list cell ∷ []) [])) (covers-has (cell_box s) p covers)
    ∙ ap (λ t. maximum (cond t (length (way_end (gridded view) (grid_root view list) s).list) 0 ∷ []))
    works in
    omega (arith, one, here)

left-after : (laws : Lawful) (view : Window) (before : Option (List Step)) (list : List Step)
    (t : PointValues) → t.n ≡ size_of view → ((p : GridPoint) → known_at t p ≡ None)
    → left (λ p. maximum (new_lengths_at view before list p)) (known_of t)
    ≡ mesh_points_after view before list
unfolding mesh_points_after
left-after laws view before list t same none =
    left-whole laws (λ p. maximum (new_lengths_at view before list p)) (known_of t)
    (points_of_grid (size_of view)) (ap points_of_grid same) none

-- The work of the box of all cells is within that of the grid, where nothing was known of its points.
pub whole-counted_after : (laws : Lawful) (view other : Window) (old : Option (List Step)) (list : List Step)
    (b : Indices) (before after : PointValues) (told now : Counts) → other ≡ view
    → b ≡ root_box_of view lattices.Grid → before.n ≡ size_of view
    → ((p : GridPoint) → known_at before p ≡ None)
    → ChargesBoxAfter (gridded other) (mesh_before view old) (visit b list) (known_of before) (known_of after) told now
    → CountsAtMost (mesh_points_after view old list) (mesh_spans_after view old list) told now
whole-counted_after laws view other old list b before after told now same root n none charges =
    let f : GridPoint → ℕ = λ p. maximum (new_lengths_at view old list p) in
    let here = subst (λ v. ChargesBoxAfter (gridded v) (mesh_before view old)
    (visit (root_box_of view lattices.Grid) list) (known_of before) (known_of after) told now) same
    (subst (λ c. ChargesBoxAfter (gridded other) (mesh_before view old) (visit c list) (known_of before) (known_of after) told now)
    root charges) in
    let h = here f (points_suffice_after view old list) in
    laws.bounds.more told now h.points (mesh_spans_after view old list) (mesh_points_after view old list)
    (mesh_spans_after view old list)
    (omega (arith, h.enough, left-after laws view old list before n none)) (omega arith) h.counts

-- The work of a grid is bounded by the length of its list.
use Rattle.std.proofs.Common.{◌≡◌, ℕ, ◌+◌, ◌-◌, ◌*◌, ◌<◌, ◌≤◌, Bool, true, false, cond, List, [], ◌∷◌, length, refl, sym, ap, subst, ◌∙◌, inl, inr, arith}
use Rattle.std.specs.Prelude.{◌&&◌, ◌⊎◌, max, min, nat_le, Contains, All}
use Rattle.std.proofs.lemmas.Bool.{and_from, and_parts, false≢true, le-leb, leb-true}
use Rattle.std.proofs.lemmas.List.Elements.{All-head, All-nil}
use Rattle.box_chains.specs.Chains.{Visit, sides}
use Rattle.box_chains.specs.Sums.{LiesIn, Sample, size, sum_in, maximum}
use Rattle.box_chains.specs.Visits.{IsVisit}
use Rattle.box_chains.specs.Laws.{Lawful}
use Rattle.kuhn_cells.specs.Triangles.{GridPoint, point}
use Rattle.live_clauses.specs.Steps.{IsTape}
use Rattle.live_clauses.specs.declared.step.Step.{Step}
use Rattle.view_places.specs.Boxes.{Indices}
use Rattle.view_places.specs.Spans.{root_box_of}
use Rattle.view_places.specs.Window.{Window, IsWindow, size_of}
use Rattle.oct_descent.specs.Bound.{has_point, least, length_in, mesh_points, mesh_spans, sample_of}
use Rattle.oct_descent.specs.Laws.{MeshPointsAreBounded, MeshSpansAreBounded}
use Rattle.oct_descent.specs.Kinds.{GridKind, descent_of, least_at, mesh, most_at, most_points, most_spans, root_of}
use Rattle.oct_descent.specs.Known.{AreWorked, Known}
use Rattle.oct_descent.specs.Tables.{IsDue, IsEnough, is_known}
use Rattle.oct_descent.specs.Ways.{CellDescent, Covers, gridded, is_working, way_end, grid_root}
use Rattle.oct_descent.proofs.Members.{all_in_block, head_or_tail, in_block, in_head, not_in_none}
use Rattle.oct_descent.proofs.Blocks.{greatest-block, greatest-block_most}
use Rattle.oct_descent.proofs.WayLaws.{end-below, spans-below}
use Rattle.view_places.specs.declared.lattice.Lattice.TheVariants as lattices

-- a box covers a point where it has it
pub has-covers : (b : Indices) (p : GridPoint) → has_point b p ≡ true → Covers b p
has-covers b p e =
    let a = and_parts _ _ e in
    let c = and_parts _ _ a.1 in
    let d = and_parts _ _ c.1 in
    let f = and_parts _ _ d.1 in
    let g = and_parts _ _ f.1 in
    record {
      x = (leb-true b.x0 p.x a.0, leb-true p.x b.x1 c.0);
      y = (leb-true b.y0 p.y d.0, leb-true p.y b.y1 f.0);
      z = (leb-true b.z0 p.z g.0, leb-true p.z b.z1 g.1);
    }

pub covers-has : (b : Indices) (p : GridPoint) → Covers b p → has_point b p ≡ true
covers-has b p covers =
    and_from (nat_le b.x0 p.x) _ (le-leb b.x0 p.x covers.x.0) (and_from (nat_le p.x b.x1) _ (le-leb p.x b.x1 covers.x.1)
    (and_from (nat_le b.y0 p.y) _ (le-leb b.y0 p.y covers.y.0) (and_from (nat_le p.y b.y1) _ (le-leb p.y b.y1 covers.y.1)
    (and_from (nat_le b.z0 p.z) _ (le-leb b.z0 p.z covers.z.0) (le-leb p.z b.z1 covers.z.1)))))

-- the length of the list that a working cell of a grid receives
abbrev working_length : GridKind → Window → List Step → GridPoint → ℕ
working_length k view list = length_in (descent_of k view) (root_of k view list)

pub whole-visit : (view : Window) (list : List Step) → IsWindow view → IsTape list → IsVisit (gridded view).boxes (grid_root view list)
whole-visit view list window tape = record {
  window = window;
  box = record { x = window.nx.some; y = window.ny.some; z = window.nz.some };
  within = record { x = omega arith; y = omega arith; z = omega arith };
  tape = tape;
}

-- sums of lesser numbers are less
sum_in-most : (laws : Lawful) (b : Indices) (f : Sample → ℕ) (c : ℕ) → ((s : Sample) → f s ≤ c) → sum_in b f ≤ size b * c
sum_in-most laws b f c less =
    let more = laws.sums.plus b f (λ s. c - f s) in
    let all = laws.sums.same b (λ s. f s + (c - f s)) (λ s. c) (λ s lies. omega (arith, less s)) in
    omega (arith, more, all, laws.sums.const b c)

at-most : (laws : Lawful) (k : GridKind) (view : Window) (list : List Step) (p cell : GridPoint) → IsWindow view → IsTape list → cell.x < view.nx → cell.y < view.ny → cell.z < view.nz
    → maximum (cond (has_point (k.cell (sample_of cell)) p) (working_length k view list cell ∷ []) []) ≤ length list
at-most laws k view list p cell window tape x y z = by (has_point (k.cell (sample_of cell)) p) (is_working d w (sample_of cell)) refl
  where
    d : CellDescent
    d = descent_of k view

    w : Visit
    w = root_of k view list

    lies : LiesIn w.box (sample_of cell)
    lies = record { x = (omega arith, x); y = (omega arith, y); z = (omega arith, z) }

    end : length (way_end d w (sample_of cell)).list ≤ length list
    end = end-below laws d w (sample_of cell) (omega arith) (whole-visit view list window tape) lies

    by : (t u : Bool) → is_working d w (sample_of cell) ≡ u → maximum (cond t (working_length k view list cell ∷ []) []) ≤ length list
    by false u e = omega arith
    by true true e = rw e (omega (arith, end))
    by true false e = rw e (omega arith)

pub points_below : (laws : Lawful) (k : GridKind) (view : Window) (list : List Step) → IsWindow view → IsTape list → most_points k view list ≤ size (k.points (size_of view)) * length list
points_below laws k view list window tape =
    sum_in-most laws (k.points (size_of view)) (λ s. most_at k view list (point s.i s.j s.k)) (length list)
    (λ s. greatest-block_most view.nx view.ny view.nz (λ cell. cond (has_point (k.cell (sample_of cell)) (point s.i s.j s.k)) (working_length k view list cell ∷ []) []) (length list)
    (λ cell x y z. at-most laws k view list (point s.i s.j s.k) cell window tape x y z))

pub spans_below : (laws : Lawful) (k : GridKind) (view : Window) (list : List Step) → IsWindow view → IsTape list
    → most_spans k view list ≤ size (root_box_of view lattices.Grid) * (sides (root_box_of view lattices.Grid) * length list)
spans_below laws k view list window tape = spans-below laws (descent_of k view) (root_of k view list) (omega arith) (whole-visit view list window tape)

-- ---- the grids of meshes

-- the indices of a box, from 0 on along each axis
block-size : (a b c x y z : ℕ) → a ≡ z → b ≡ y → c ≡ x → a * (b * c) ≡ x * (y * z)
block-size a b c x y z ez ey ex = rw (ez, ey, ex) (grind arith)

pub points_bounded : Lawful → MeshPointsAreBounded
unfolding mesh_points
points_bounded laws view list window tape =
    subst (λ (n : ℕ). mesh_points view list ≤ n * length list)
    (block-size (view.nz + 1 - 0) (view.ny + 1 - 0) (view.nx + 1 - 0) (view.nx + 1) (view.ny + 1) (view.nz + 1) (side view.nz) (side view.ny) (side view.nx))
    (points_below laws mesh view list window tape)
  where
    side : (n : ℕ) → (n + 1) - 0 ≡ n + 1
    side n = omega arith

pub spans_bounded : Lawful → MeshSpansAreBounded
spans_bounded laws view list window tape =
    let cells = block-size (view.nz - 0) (view.ny - 0) (view.nx - 0) view.nx view.ny view.nz (side view.nz) (side view.ny) (side view.nx) in
    let sides : (view.nx - 0) + (view.ny - 0) + (view.nz - 0) ≡ view.nx + view.ny + view.nz = omega arith in
    subst (λ (k : ℕ). mesh_spans view list ≤ view.nx * (view.ny * view.nz) * (k * length list)) sides
    (subst (λ (n : ℕ). mesh_spans view list ≤ n * (((view.nx - 0) + (view.ny - 0) + (view.nz - 0)) * length list)) cells
    (spans_below laws mesh view list window tape))
  where
    side : (n : ℕ) → n - 0 ≡ n
    side n = omega arith

-- ---- what is due

-- the least number is at most each
pub least-of : (ns : List ℕ) (n : ℕ) → Contains ns n → least ns ≤ n
least-of [] n h = absurd (not_in_none n h)
least-of (k ∷ []) n h = by (head_or_tail k [] n h)
  where
    by : (k ≡ n) ⊎ Contains [] n → k ≤ n
    by (inl same) = omega (arith, same)
    by (inr later) = absurd (not_in_none n later)
least-of (k ∷ m ∷ ns) n h = by (head_or_tail k (m ∷ ns) n h) (λ later. least-of (m ∷ ns) n later)
  where
    by : (k ≡ n) ⊎ Contains (m ∷ ns) n → (Contains (m ∷ ns) n → least (m ∷ ns) ≤ n) → min k (least (m ∷ ns)) ≤ n
    by (inl same) rest = omega (arith, same)
    by (inr later) rest = omega (arith, rest later)

-- where there is none it is 0
least-none : (ns : List ℕ) → All (λ n. ⊥) ns → least ns ≡ 0
least-none [] h = refl
least-none (n ∷ ns) h = absurd (All-head (λ n. ⊥) n ns h)

-- the lists of the working cells that have a point as a corner, and none for another cell
abbrev due_at : GridKind → Window → List Step → GridPoint → GridPoint → List ℕ
due_at k view list p cell =
    cond (has_point (k.cell (sample_of cell)) p && is_working (descent_of k view) (root_of k view list) (sample_of cell)) (length (way_end (descent_of k view) (root_of k view list) (sample_of cell)).list ∷ []) []

-- what a grid's points take at least is due for the box of all cells
pub points_due : (k : GridKind) (view : Window) (list : List Step) → IsDue (least_at k view list) (descent_of k view) (root_of k view list)
points_due k view list s lies works p covers =
    least-of _ len
    (in_block view.nx view.ny view.nz (due_at k view list p) (point s.i s.j s.k) len lies.x.1 lies.y.1 lies.z.1 (subst (λ (ns : List ℕ). Contains ns len) (sym here) (in_head [] len)))
  where
    len : ℕ
    len = length (way_end (descent_of k view) (root_of k view list) s).list

    here : due_at k view list p (point s.i s.j s.k) ≡ len ∷ []
    here = ap (λ t. cond t (len ∷ []) []) (and_from (has_point (k.cell s) p) _ (covers-has (k.cell s) p covers) works)

-- and a point takes nothing that is not known once all working cells are
pub none_due : (k : GridKind) (view : Window) (list : List Step) (t : Known) (p : GridPoint) → AreWorked (descent_of k view) (root_of k view list) t → is_known (t.at p) ≡ false → least_at k view list p ≡ 0
none_due k view list t p worked unknown =
    least-none _ (all_in_block (λ n. ⊥) view.nx view.ny view.nz (due_at k view list p) (λ cell x y z. by cell x y z (has_point (k.cell (sample_of cell)) p && is_working d w (sample_of cell)) refl))
  where
    d : CellDescent
    d = descent_of k view

    w : Visit
    w = root_of k view list

    by : (cell : GridPoint) → cell.x < view.nx → cell.y < view.ny → cell.z < view.nz → (b : Bool) → (has_point (k.cell (sample_of cell)) p && is_working d w (sample_of cell)) ≡ b
        → All (λ n. ⊥) (cond b (length (way_end d w (sample_of cell)).list ∷ []) [])
    by cell x y z true e =
        let parts = and_parts (has_point (k.cell (sample_of cell)) p) _ e in
        let lies : LiesIn w.box (sample_of cell) = record { x = (omega arith, x); y = (omega arith, y); z = (omega arith, z) } in
        absurd (false≢true (sym unknown ∙ worked (sample_of cell) lies parts.1 p (has-covers (k.cell (sample_of cell)) p parts.0)))
    by cell x y z false e = All-nil (λ n. ⊥)

-- what a grid's points take is enough for the box of all cells
pub points_suffice : (k : GridKind) (view : Window) (list : List Step) → IsEnough (most_at k view list) (descent_of k view) (root_of k view list)
points_suffice k view list s lies works p covers =
    let cell = point s.i s.j s.k in
    let one = greatest-block view.nx view.ny view.nz (λ cell. cond (has_point (k.cell (sample_of cell)) p) (working_length k view list cell ∷ []) []) cell lies.x.1 lies.y.1 lies.z.1 in
    let here : maximum (cond (has_point (k.cell s) p) (working_length k view list cell ∷ []) []) ≡ max (length (way_end (descent_of k view) (root_of k view list) s).list) 0 =
    ap (λ t. maximum (cond t (working_length k view list cell ∷ []) [])) (covers-has (k.cell s) p covers)
    ∙ ap (λ t. maximum (cond t (length (way_end (descent_of k view) (root_of k view list) s).list) 0 ∷ [])) works in
    omega (arith, one, here)

-- The work of a plane grid, and what is known of it once its box of all cells is looked into.
use Rattle.std.proofs.Common.{◌≡◌, ℕ, ◌+◌, ◌-◌, ◌*◌, ◌≤◌, List, length, refl, subst, ap, arith}
use Rattle.std.specs.Prelude.{None}
use Rattle.box_chains.specs.Tallied.{CountsAtMost}
use Rattle.fixed_ops.specs.Counts.{Counts}
use Rattle.kuhn_cells.specs.Triangles.{GridPoint}
use Rattle.live_clauses.specs.Steps.{IsTape}
use Rattle.live_clauses.specs.declared.step.Step.{Step}
use Rattle.oct_descent.specs.Bound.{CountsAtLeast}
use Rattle.oct_descent.specs.GridLaws.{LawsOf}
use Rattle.oct_descent.specs.Known.{AreSettled, AreWorked, ChargesBox, Grows, PaysBox}
use Rattle.view_places.specs.Window.{IsWindow, Window, size_of}
use Rattle.contour_lines.specs.Bound.{flat_least, flat_points, flat_spans}
use Rattle.contour_lines.specs.Tables.{PlaneValues, known_at, known_of}
use Rattle.contour_lines.specs.Trees.{IsTold}
use Rattle.contour_lines.specs.Ways.{flat_value, planar, plane, plane_root, points_of_plane}

turned : (a b c x y : ℕ) → a ≡ 1 → b ≡ y → c ≡ x → a * (b * c) ≡ x * y
turned a b c x y ea eb ec = rw (ea, eb, ec) (grind arith)

pub points_bounded : (laws : LawsOf plane) (view : Window) (list : List Step) → IsWindow view → IsTape list → flat_points view list ≤ (view.nx + 1) * (view.ny + 1) * length list
unfolding flat_points
points_bounded laws view list window tape =
    subst (λ (n : ℕ). flat_points view list ≤ n * length list) cells (laws.whole.points_below view list window tape)
  where
    cells : (1 - 0) * ((view.ny + 1 - 0) * (view.nx + 1 - 0)) ≡ (view.nx + 1) * (view.ny + 1)
    cells = turned (1 - 0) (view.ny + 1 - 0) (view.nx + 1 - 0) (view.nx + 1) (view.ny + 1) (omega arith) (omega arith) (omega arith)

pub spans_bounded : (laws : LawsOf plane) (view : Window) (list : List Step) → view.nz ≡ 1 → IsWindow view → IsTape list → flat_spans view list ≤ view.nx * view.ny * ((view.nx + view.ny + 1) * length list)
spans_bounded laws view list flat window tape =
    subst (λ (k : ℕ). flat_spans view list ≤ view.nx * view.ny * (k * length list)) sides
    (subst (λ (n : ℕ). flat_spans view list ≤ n * (((view.nx - 0) + (view.ny - 0) + (view.nz - 0)) * length list)) cells
    (laws.whole.spans_below view list window tape))
  where
    cells : (view.nz - 0) * ((view.ny - 0) * (view.nx - 0)) ≡ view.nx * view.ny
    cells = turned (view.nz - 0) (view.ny - 0) (view.nx - 0) view.nx view.ny (omega (arith, flat)) (omega arith) (omega arith)

    sides : (view.nx - 0) + (view.ny - 0) + (view.nz - 0) ≡ view.nx + view.ny + 1
    sides = omega (arith, flat)

-- the work of the box of all cells is within that of the grid
pub whole-counted : (laws : LawsOf plane) (view : Window) (list : List Step) (before after : PlaneValues) (told now : Counts) → before.n ≡ size_of view → ((p : GridPoint) → known_at before p ≡ None)
    → ChargesBox (planar view) (plane_root view list) (known_of before) (known_of after) told now → CountsAtMost (flat_points view list) (flat_spans view list) told now
unfolding flat_points
whole-counted laws view list before after told now n none charges =
    laws.whole.counted view view list (plane_root view list).box (known_of before) (known_of after) told now refl refl (ap points_of_plane n) none charges

-- and no less work is counted than what is due
pub whole-paid : (laws : LawsOf plane) (view : Window) (list : List Step) (before after : PlaneValues) (told now : Counts) → before.n ≡ size_of view → ((p : GridPoint) → known_at before p ≡ None)
    → AreWorked (planar view) (plane_root view list) (known_of after) → PaysBox (planar view) (plane_root view list) (known_of before) (known_of after) told now → CountsAtLeast (flat_least view list) told now
unfolding flat_least
whole-paid laws view list before after told now n none worked pays =
    laws.whole.paid view view list (plane_root view list).box (known_of before) (known_of after) told now refl refl (ap points_of_plane n) none worked pays

-- and what it leaves tells the grid
pub whole-told : (laws : LawsOf plane) (view : Window) (list : List Step) (before after : PlaneValues) → before.n ≡ size_of view → ((p : GridPoint) → known_at before p ≡ None)
    → Grows (flat_value view list) (plane_root view list).box (known_of before) (known_of after) → AreSettled (planar view) (flat_value view list) (plane_root view list).box (known_of after) → IsTold view list (known_of after)
whole-told laws view list before after n none grows settled = record {
  n = laws.sizes.chain after.n before.n (size_of view) grows.n (laws.sizes.from before.n (size_of view) n);
  right = laws.whole.right view view list (plane_root view list).box (known_of before) (known_of after) refl none grows;
  settled = settled;
}

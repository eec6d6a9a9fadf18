-- What a box of cells shows of the points that it covers.
use Rattle.std.proofs.Common.{◌≡◌, ℕ, ◌≤◌, ℤ, Bool, true, false, cond, refl, ap, ◌∙◌, arith}
use Rattle.std.specs.Prelude.{Some, pos, ◌==◌, ◌||◌}
use Rattle.std.specs.Int.{int_max}
use Rattle.std.proofs.lemmas.Int.{ints}
use Rattle.std.proofs.lemmas.Bool.Decides.{nat_tests}
use Rattle.choice_trace.specs.Hulls.{IsIn, choices_over, tape_hull}
use Rattle.fixed_ops.specs.Raw.{is_inside}
use Rattle.interval_ops.specs.Decided.{decided_of}
use Rattle.interval_ops.specs.Spans.{Holds, Interval}
use Rattle.kuhn_cells.specs.Triangles.{GridPoint}
use Rattle.live_clauses.specs.Steps.{tape_value}
use Rattle.view_places.specs.Boxes.{Indices}
use Rattle.view_places.specs.Places.{point_of}
use Rattle.view_places.specs.Spans.{region_of}
use Rattle.view_places.specs.Window.{Window, size_of}
use Rattle.box_chains.specs.Chains.{Visit, decision, handed_on}
use Rattle.box_chains.specs.Sums.{LiesIn, Sample}
use Rattle.box_chains.specs.Visits.{IsVisit}
use Rattle.box_chains.specs.Laws.{Lawful}
use Rattle.kuhn_cells.specs.Grids.{bordered, is_border}
use Rattle.kuhn_cells.specs.declared.grid_size.GridSize.{GridSize}
use Rattle.oct_descent.specs.GridValues.{value_on}
use Rattle.oct_descent.specs.Kinds.{BordersHold, GridKind, mesh, value_in}
use Rattle.oct_descent.specs.Tables.{IsUniform}
use Rattle.oct_descent.specs.Ways.{Covers, cell_box, gridded, meets_border}
use Rattle.view_places.specs.declared.lattice.Axis.TheVariants as axes
use Rattle.view_places.specs.declared.lattice.Lattice.TheVariants as lattices

-- the corners of a cell of a box are covered
pub corner-covered : (b : Indices) (s : Sample) (p : GridPoint) → LiesIn b s → Covers (cell_box s) p → Covers b p
corner-covered b s p lies covers = record {
  x = (omega (arith, lies.x, covers.x), omega (arith, lies.x, covers.x));
  y = (omega (arith, lies.y, covers.y), omega (arith, lies.y, covers.y));
  z = (omega (arith, lies.z, covers.z), omega (arith, lies.z, covers.z));
}

-- the ranges of a box hold the points that it covers
region-holds : (laws : Lawful) (view : Window) (v : Visit) (p : GridPoint) → IsVisit (gridded view).boxes v → Covers v.box p → IsIn (region_of view lattices.Grid v.box) (point_of view lattices.Grid p.x p.y p.z)
region-holds laws view v p is covers =
    let b = v.box in
    record {
      x = (laws.layers.ranges view lattices.Grid axes.X b.x0 b.x1 is.window (omega (arith, is.box.x))).holds p.x covers.x.0 covers.x.1;
      y = (laws.layers.ranges view lattices.Grid axes.Y b.y0 b.y1 is.window (omega (arith, is.box.y))).holds p.y covers.y.0 covers.y.1;
      z = (laws.layers.ranges view lattices.Grid axes.Z b.z0 b.z1 is.window (omega (arith, is.box.z))).holds p.z covers.z.0 covers.z.1;
    }

-- the list that a box hands on has the value of the one that it receives at each point that it covers
pub handed-value : (laws : Lawful) (k : GridKind) (view : Window) (v : Visit) (p : GridPoint) → IsVisit (gridded view).boxes v → Covers v.box p
    → value_in k view (handed_on (gridded view).boxes v) p ≡ value_in k view v.list p
handed-value laws k view v p is covers =
    let region = region_of view lattices.Grid v.box in
    let at = point_of view lattices.Grid p.x p.y p.z in
    ap (λ (w : ℤ). cond (k.is_border (size_of view) p) (int_max w (pos 0)) w) (laws.layers.kept at v.list (choices_over region v.list) is.tape (laws.layers.choices region v.list)
    (laws.layers.right region at v.list (laws.visits.ranges (gridded view).boxes v is) (region-holds laws view v p is covers) is.tape))

decided-right : (s : Interval) (x : ℤ) (inside : Bool) → Holds s x → decided_of s ≡ Some inside → is_inside x ≡ inside
decided-right s x inside h e = grind (arith, ints, h, e)

-- a box that is decided is decided rightly for each point that it covers, but for the outermost layer
pub decision-right : (laws : Lawful) (view : Window) (v : Visit) (p : GridPoint) (inside : Bool) → IsVisit (gridded view).boxes v → Covers v.box p
    → decision (gridded view).boxes v ≡ Some inside → is_inside (value_on view v.list p) ≡ inside
decision-right laws view v p inside is covers e =
    let region = region_of view lattices.Grid v.box in
    let at = point_of view lattices.Grid p.x p.y p.z in
    decided-right (tape_hull region v.list) (tape_value at v.list) inside
    (laws.layers.held region at v.list (laws.visits.ranges (gridded view).boxes v is) (region-holds laws view v p is covers) is.tape) e

-- no number that is 0 or more is inside
max-outside : (x : ℤ) → is_inside (int_max x (pos 0)) ≡ false
max-outside x = grind (arith, ints)

pub bordered-outside : (n : GridSize) (p : GridPoint) (v : ℤ) → is_border n p ≡ true → is_inside (bordered n p v) ≡ false
bordered-outside n p v e = rw e (max-outside v)

-- what is outside stays so on the border
outside-stays : (t : Bool) (v : ℤ) → is_inside v ≡ false → is_inside (cond t (int_max v (pos 0)) v) ≡ false
outside-stays true v e = max-outside v
outside-stays false v e = e

pub outside-uniform : (laws : Lawful) (k : GridKind) → BordersHold k → (view : Window) (v : Visit) (s : Sample) → IsVisit (gridded view).boxes v → LiesIn v.box s → decision (gridded view).boxes v ≡ Some false
    → IsUniform (value_in k view v.list) (k.cell s)
outside-uniform laws k holds view v s is lies e = record {
  inside = false;
  each = λ p covers. outside-stays (k.is_border (size_of view) p) (value_on view v.list p) (decision-right laws view v p false is (holds.covered v.box s p lies covers) e);
}

pub inside-uniform : (laws : Lawful) (k : GridKind) → BordersHold k → (view : Window) (v : Visit) (s : Sample) → IsVisit (gridded view).boxes v → LiesIn v.box s → decision (gridded view).boxes v ≡ Some true → k.meets (size_of view) v.box ≡ false
    → IsUniform (value_in k view v.list) (k.cell s)
inside-uniform laws k holds view v s is lies e apart = record {
  inside = true;
  each = λ p covers.
      let covered = holds.covered v.box s p lies covers in
      ap is_inside (ap (λ t. cond t (int_max (value_on view v.list p) (pos 0)) (value_on view v.list p)) (holds.apart (size_of view) v.box p is.within.x is.within.y is.within.z covered apart))
      ∙ decision-right laws view v p true is covered e;
}

-- ---- the grids of meshes

-- a box that covers no point of the outermost layer covers none
pub axis-apart : (n low high i : ℕ) → low ≤ i → i ≤ high → high ≤ n → (low == 0 || high == n) ≡ false → (i == 0 || i == n) ≡ false
axis-apart n low high i a b c e = grind (arith, nat_tests, e)

pub or-false : (a b : Bool) → (a || b) ≡ false → (a ≡ false) × (b ≡ false)
or-false true b e = absurd (grind (arith, e))
or-false false b e = (refl, e)

border-apart : (n : GridSize) (b : Indices) (p : GridPoint) → b.x1 ≤ n.x → b.y1 ≤ n.y → b.z1 ≤ n.z → Covers b p → meets_border n b ≡ false → is_border n p ≡ false
border-apart n b p x y z covers e =
    let first = or-false (b.x0 == 0 || b.x1 == n.x) _ e in
    let second = or-false (b.y0 == 0 || b.y1 == n.y) (b.z0 == 0 || b.z1 == n.z) first.1 in
    let ex = axis-apart n.x b.x0 b.x1 p.x covers.x.0 covers.x.1 x first.0 in
    let ey = axis-apart n.y b.y0 b.y1 p.y covers.y.0 covers.y.1 y second.0 in
    let ez = axis-apart n.z b.z0 b.z1 p.z covers.z.0 covers.z.1 z second.1 in
    rw (ex, ey, ez) refl

pub mesh_holds : BordersHold mesh
mesh_holds = record { apart = border-apart; covered = corner-covered }
